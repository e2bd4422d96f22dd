pub mod Rows
pub mod Does
pub mod Running
pub use Rattle.results.specs.Result
pub use Rattle.results.specs.World
pub use Rattle.form_commands.specs.Forms
