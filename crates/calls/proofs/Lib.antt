pub mod Promises
pub mod Samples
