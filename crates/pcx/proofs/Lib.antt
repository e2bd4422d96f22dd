pub mod Runs
pub mod Rules
