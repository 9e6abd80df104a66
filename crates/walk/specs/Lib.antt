pub mod Moves
pub mod Runs
pub mod Steps
pub mod Alike
