pub mod Outcomes
pub mod Table
pub mod Station
pub use Rattle.commands.specs.Does
pub use Rattle.commands.specs.Rows
pub use Rattle.commands.specs.Running
