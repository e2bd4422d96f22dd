pub mod Permitted
pub mod Judged
pub mod Cases
pub use Rattle.summary.specs.Summary
pub use Rattle.reach.specs.Answers
pub use Rattle.reach.specs.declared.DataFault
pub use Rattle.reach.specs.declared.DataFault.TheVariants as DataFaultVariants
pub use Rattle.elements.specs.Elements
