pub mod Writing
pub use Rattle.numbers.specs.Number
