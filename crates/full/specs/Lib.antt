-- Which kind of full.
pub mod Full
pub mod Cases
