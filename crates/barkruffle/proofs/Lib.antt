pub mod Telling
pub mod Rows
