pub mod Counts
pub mod Cells
pub mod Scan
pub mod Sets
pub mod Passing
pub mod Samples
