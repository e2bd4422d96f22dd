pub mod Commands
pub mod Cases
pub mod Pointing
pub use Rattle.row_limits.specs.Limits
pub use Rattle.data_field.specs.Data
pub use Rattle.format_field.specs.Reading
