pub mod Folding
pub mod Walking
