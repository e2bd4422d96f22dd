pub mod Image
pub mod Samples
