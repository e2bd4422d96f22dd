-- What is found in links and directory.
pub mod Find
pub mod Bytes
pub mod Samples
