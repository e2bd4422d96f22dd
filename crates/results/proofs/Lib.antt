pub mod Answers
pub mod Lengths
pub mod Parts
pub mod Erasing
