pub mod Written
pub mod Contents
pub mod Promise
pub use Rattle.read.specs.Commands
pub use Rattle.read.specs.declared.Fault
pub use Rattle.read.specs.declared.Fault.TheVariants as FaultVariants
