pub mod Words
pub mod Lines
pub mod Samples
