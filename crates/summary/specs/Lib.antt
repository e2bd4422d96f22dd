pub mod Summary
pub use Rattle.pieces.specs.Data
