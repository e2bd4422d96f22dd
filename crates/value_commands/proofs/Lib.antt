pub mod Around
pub mod Entering
