pub mod Tasks
pub mod Passes
pub mod Past
pub mod Rewriting
pub mod Step
