pub mod Around
pub mod Erasing
pub mod Keeping
