-- Room in the store.
pub mod Room
