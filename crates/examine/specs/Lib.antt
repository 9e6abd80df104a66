pub mod Compared
pub mod Recorded
pub mod Examined
