pub mod Listing
pub mod Back
