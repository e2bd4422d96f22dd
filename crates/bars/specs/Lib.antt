pub mod Drawing
pub mod Cases
