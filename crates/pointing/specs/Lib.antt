pub mod Soon
pub mod Base
