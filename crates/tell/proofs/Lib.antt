pub mod Added
pub mod Laws
pub mod Spelled
pub mod Zeros
