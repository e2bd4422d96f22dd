pub mod Texts
pub mod Laying
pub mod Always
pub mod Cases
