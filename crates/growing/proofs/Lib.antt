pub mod Growth
pub mod Keeping
