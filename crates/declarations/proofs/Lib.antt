pub mod Tenths
pub mod Every
