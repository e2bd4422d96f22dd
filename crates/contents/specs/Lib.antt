-- What the entries of the store hold.
pub mod Content
pub mod Run
pub mod Samples
