pub mod Writes
pub use Rattle.numbers.proofs.Laws
