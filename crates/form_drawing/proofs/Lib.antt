pub mod Running
pub mod Keeping
