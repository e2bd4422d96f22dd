pub mod Clocks
pub mod Ticks
