pub mod Moves
pub mod Job
pub mod Times
