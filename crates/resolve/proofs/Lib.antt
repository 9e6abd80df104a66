pub mod Laws
pub mod Targets
pub mod Slots
