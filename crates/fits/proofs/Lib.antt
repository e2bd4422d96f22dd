pub mod Bearing
pub mod Cases
