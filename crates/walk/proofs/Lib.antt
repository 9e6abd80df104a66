pub mod Places
pub mod Leads
pub mod Runs
pub mod Running
pub mod Steps
pub mod Alike
