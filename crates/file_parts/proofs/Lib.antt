pub mod Sums
pub mod Places
