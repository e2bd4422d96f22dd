pub mod Elements
pub mod Samples
pub use Rattle.numbers.specs.Number
