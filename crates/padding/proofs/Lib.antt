pub mod Ranges
pub mod Padded
pub mod Cases
