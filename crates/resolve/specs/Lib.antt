pub mod Means
pub mod Resolves
