pub mod Outside
pub mod Cases
