pub mod Frame
pub mod Cases
