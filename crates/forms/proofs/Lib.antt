pub mod Walking
pub mod Growing
pub mod Letters
