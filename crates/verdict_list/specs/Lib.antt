-- The list of what was said of the entries.
pub mod Lines
pub mod Samples
