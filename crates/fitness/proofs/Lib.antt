pub mod Parts
pub mod Always
pub mod Walked
pub mod Filled
