pub mod Steps
pub mod Moved
pub mod Spare
pub mod Spots
pub mod Faults
pub mod Laws
