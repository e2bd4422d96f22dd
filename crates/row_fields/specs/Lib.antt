pub mod Reading
pub use Rattle.reader.specs.Letters
