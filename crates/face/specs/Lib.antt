pub use Rattle.exported.specs.Face
