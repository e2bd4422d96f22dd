pub mod Field
pub mod Samples
pub use Rattle.classes.specs.Bytes
pub use Rattle.kinds.specs.Bytes as KindsBytes
pub use Rattle.kinds.specs.Text
