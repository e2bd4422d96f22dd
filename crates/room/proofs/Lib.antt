pub mod Room
pub mod Counting
pub mod Samples
