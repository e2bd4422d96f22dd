-- Laws that belong to no one function.
pub mod Gaps
pub mod Near
pub mod Past
pub mod Middle
pub mod Ends
pub mod Expected
pub mod Roots
pub mod Parts
pub mod Strips
pub mod Drawn
pub mod Lines
