pub mod Makers
pub mod Forms
pub mod Named
pub mod Codes
pub use Rattle.numbers.specs.Number
