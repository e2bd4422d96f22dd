pub mod Tables
pub mod Rule
pub mod Weighing
