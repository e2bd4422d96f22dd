pub mod Clock
pub mod Day
pub mod Cases
