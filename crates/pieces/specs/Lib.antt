pub mod Data
pub use Rattle.elements.specs.Elements
