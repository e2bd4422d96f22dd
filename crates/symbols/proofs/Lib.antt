pub mod Lists
pub mod Checks
pub mod Fill39
pub mod Fill25
pub mod FillEan
pub mod Fill128
pub mod Asked
