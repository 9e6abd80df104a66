pub mod Crate
pub mod Info
pub mod Met
pub mod Domain
pub mod Demand2
pub mod Readers
pub mod Entries
