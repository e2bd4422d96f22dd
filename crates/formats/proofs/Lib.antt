pub mod Legality
pub mod Packing
