pub mod Runs
pub mod Reading
