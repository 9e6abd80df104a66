pub mod Listing
pub mod Starting
pub mod Tiling
pub mod Targets
