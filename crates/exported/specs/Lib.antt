pub mod Face
pub use Rattle.calls.specs.Outcomes
pub use Rattle.calls.specs.Station
