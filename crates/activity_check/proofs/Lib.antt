pub mod Active
pub mod Owed
