pub mod Labelling
pub use Rattle.sound.specs.Entry
