pub mod Ends
pub mod Words
pub mod WideLoads
pub mod KindTable
