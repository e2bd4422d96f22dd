pub use Rattle.calls.specs.Outcomes
pub use Rattle.calls.specs.Station
pub use Rattle.calls.specs.declared.Outcome
