-- What is said of each entry of a damaged memory.
pub mod Verdicts
pub mod Samples
