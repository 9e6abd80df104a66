pub mod Slots
pub mod Table
pub mod Kinds
pub mod Wide
