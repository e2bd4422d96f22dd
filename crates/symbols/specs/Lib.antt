pub mod Tables
pub mod Elements
pub mod Laid
pub mod Cases
