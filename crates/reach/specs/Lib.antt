pub mod Answers
pub mod Cases
