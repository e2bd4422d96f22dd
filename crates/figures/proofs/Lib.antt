-- Laws that belong to no one function.
pub mod Placed
pub mod Turns
pub mod Samples
