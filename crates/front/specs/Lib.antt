pub mod Front
pub mod Cases
