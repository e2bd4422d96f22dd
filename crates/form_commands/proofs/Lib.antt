pub mod Around
pub mod Erasing
pub mod Starting
