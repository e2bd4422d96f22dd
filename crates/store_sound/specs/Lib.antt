-- The store's part of sound.
pub mod Sound
pub mod Shelf
