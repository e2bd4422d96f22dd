pub mod Showing
pub mod Keeping
