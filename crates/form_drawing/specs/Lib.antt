pub mod Draw
pub mod Label
pub mod Cases
pub use Rattle.item_drawing.specs.Draw as ItemDrawingDraw
