pub mod Answering
pub mod Leftmost
