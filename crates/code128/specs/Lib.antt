pub mod Widths
pub mod Code128
pub mod Rule
pub mod Cases
