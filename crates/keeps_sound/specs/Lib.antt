-- Calls one after another (Calls), and what is shown of each (Good, Tens).
pub mod Good
pub mod Tens
pub mod Calls
pub use Rattle.calls.specs.Outcomes
pub use Rattle.calls.specs.Station
pub use Rattle.calls.specs.Table
pub use Rattle.sound.specs.Sound
