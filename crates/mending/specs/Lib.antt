-- What is left of a damaged memory.
pub mod Mending
pub mod Samples
