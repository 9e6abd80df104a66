pub mod Pointing
pub mod Extending
pub mod Admitting
pub mod Steps
pub mod Whole
pub mod Ways
pub mod Kept
pub mod Listing
