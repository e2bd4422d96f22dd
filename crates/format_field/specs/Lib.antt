pub mod Reading
pub mod Cases
