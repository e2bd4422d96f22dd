pub mod Cleared
pub mod Samples
