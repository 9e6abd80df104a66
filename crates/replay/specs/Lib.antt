pub mod Input
pub mod Shown
