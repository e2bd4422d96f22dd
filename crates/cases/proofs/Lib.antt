pub mod Opened
pub mod Laws
pub mod Sample
pub mod Cases
pub mod Full
pub mod FreeRoom
pub mod Slants
