pub mod Scan
pub mod Chunks
pub mod Laws
pub mod Bound
pub mod Cursor
