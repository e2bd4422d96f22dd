-- Laws that belong to no one function.
pub mod Within
pub mod Showing
pub mod Stacked
pub mod Keeping
pub mod Asked
