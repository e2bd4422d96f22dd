pub mod Turn
pub mod Cases
