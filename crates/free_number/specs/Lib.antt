-- The number of free portions that a session keeps.
pub mod Number
pub mod After
