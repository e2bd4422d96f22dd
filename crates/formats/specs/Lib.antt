pub mod Formats
pub mod Cases
pub use Rattle.kinds.specs.Bytes
pub use Rattle.kinds.specs.Text
