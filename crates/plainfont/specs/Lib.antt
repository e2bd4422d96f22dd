pub mod Drawing
pub mod Plain
pub mod Cases
