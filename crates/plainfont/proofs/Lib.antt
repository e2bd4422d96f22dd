-- Laws that belong to no one function.
pub mod Promise
pub mod Rows
