pub mod Sights
pub mod Entry
