pub mod Held
pub mod Own
pub use Rattle.normal.specs.Written
pub use Rattle.row_fields.specs.Reading
pub use Rattle.row_limits.specs.Limits
