pub mod Arms
pub mod Ends
pub mod Kept
