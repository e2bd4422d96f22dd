pub mod Session
pub mod Active
pub mod Label
