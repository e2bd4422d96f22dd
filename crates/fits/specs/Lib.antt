-- Will it fit?
pub mod Names
pub mod Fits
