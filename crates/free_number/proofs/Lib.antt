pub mod Taking
pub mod Calling
pub mod Cases
