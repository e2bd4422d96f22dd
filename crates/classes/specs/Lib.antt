pub mod Bytes
pub mod Samples
pub use Rattle.kinds.specs.Bytes as KindsBytes
pub use Rattle.kinds.specs.Text
