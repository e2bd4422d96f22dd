pub mod Stored
pub mod Cases
