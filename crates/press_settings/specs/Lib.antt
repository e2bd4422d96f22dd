pub mod Names
pub mod Settings
