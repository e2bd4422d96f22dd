-- Entries are erased.
pub mod Erase
pub mod Samples
