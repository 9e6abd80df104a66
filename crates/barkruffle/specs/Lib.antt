pub mod Promises
pub mod LentRows
