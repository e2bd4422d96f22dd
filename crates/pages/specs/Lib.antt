pub mod Pages
pub mod Cases
