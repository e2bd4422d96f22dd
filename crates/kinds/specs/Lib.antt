pub mod Text
pub mod Bytes
pub mod Fit
pub mod Cases
