pub mod Whole
pub mod Written
pub mod Laws
pub mod Chunks
