-- Cells, counts and searches: definitions alone.
pub mod Cell
pub mod Count
pub mod Scan
