pub mod Call
pub mod Promises
pub mod Samples
