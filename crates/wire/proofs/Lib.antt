pub mod Bits
pub mod Stores
pub mod Places
pub mod Laws
