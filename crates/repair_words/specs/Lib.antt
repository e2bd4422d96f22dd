pub mod RepairWords
pub mod Samples
