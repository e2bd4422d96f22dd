-- Opening clears the store.
pub mod Clear
