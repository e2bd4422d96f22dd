-- Paper 01's proof cases, which kind of full (paper 02, §5), the number of free portions (§6), and slanted lines (§8).
pub mod Calls
pub mod Table
pub mod Full
pub mod FreeRoom
pub mod Slants
pub use Rattle.calls.specs.Outcomes
pub use Rattle.calls.specs.Station
