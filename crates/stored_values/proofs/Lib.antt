pub mod Entering
pub mod Fields
