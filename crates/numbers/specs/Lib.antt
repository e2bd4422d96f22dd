pub mod Number
pub mod Samples
pub use Rattle.classes.specs.Bytes
