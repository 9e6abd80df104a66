pub mod Counts
pub mod Filled
pub mod Status
pub mod Steps
