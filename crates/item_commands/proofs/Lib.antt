pub mod Around
pub mod First
