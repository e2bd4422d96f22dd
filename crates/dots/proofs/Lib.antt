-- Laws that belong to no one function.
pub mod Bits
pub mod Pages
pub mod Shapes
pub mod Cases
