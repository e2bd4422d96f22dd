-- The lines of a content.
pub mod Lines
pub mod Samples
