pub mod LinkSteps
pub mod Verdicts
