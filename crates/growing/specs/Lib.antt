-- What is stored grows.
pub mod Grow
pub mod Keep
pub mod Samples
