pub mod Data
pub mod Samples
pub use Rattle.elements.specs.Elements
pub use Rattle.fields.specs.Field
