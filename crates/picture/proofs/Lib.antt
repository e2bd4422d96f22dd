-- Laws that belong to no one function.
pub mod Bits
pub mod Shape
pub mod Part
pub mod Drawing
