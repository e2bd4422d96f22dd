pub mod Limits
pub mod Stroking
pub mod Totals
