pub mod Carried
pub use Rattle.recording.specs.Judged
