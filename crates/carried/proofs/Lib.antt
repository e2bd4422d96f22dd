-- The cases of the definition.
pub mod Cases
