pub mod Back
pub mod Decimal
pub mod Line
pub mod Run
