-- Laws that belong to no one function.
pub mod Passes
pub mod Enough
pub mod Writing
