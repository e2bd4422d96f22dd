pub mod Laying
pub mod Cases
