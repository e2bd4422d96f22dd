pub mod Counters
pub mod Cases
