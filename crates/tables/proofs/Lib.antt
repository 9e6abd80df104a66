pub mod Bounds
pub mod Tests
pub mod Sums
pub mod Rows
pub mod Refusals
