pub mod Text
pub mod Lines
pub mod Files
pub mod Words
pub mod Commands
pub mod Listing
pub mod Room
