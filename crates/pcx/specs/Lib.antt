pub mod Rules
pub mod Cases
