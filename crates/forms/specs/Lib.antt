pub mod Form
pub mod Walk
