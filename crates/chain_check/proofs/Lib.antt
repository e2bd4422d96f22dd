pub mod Claiming
pub mod Claims
