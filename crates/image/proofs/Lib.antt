pub mod Numbers
pub mod Ten
pub mod Storing
pub mod Inverse
