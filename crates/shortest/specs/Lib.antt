pub mod Writing
pub mod Found
pub mod Lengths
pub mod Cases
