pub mod Own
pub mod Standing
pub mod Cases
