pub mod Text
pub mod Samples
