-- An entry is started, and a form finished.
pub mod Start
pub mod Samples
