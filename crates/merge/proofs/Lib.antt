pub mod Laws
pub mod Strays
pub mod Rooms
pub mod Linked
pub mod Copied
pub mod Checked
