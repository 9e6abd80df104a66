pub mod InOrder
pub mod Tiling
