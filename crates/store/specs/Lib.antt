-- What lies in the lent store: paper 01, "What is lent".
pub mod Chain
pub mod Entry
pub mod Samples
