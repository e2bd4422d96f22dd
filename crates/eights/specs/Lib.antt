pub mod Eights
pub mod Cases
