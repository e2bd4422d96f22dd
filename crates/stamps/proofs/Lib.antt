pub mod Laying
pub mod Shown
