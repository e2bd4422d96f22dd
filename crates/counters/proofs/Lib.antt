pub mod Tens
pub mod Digits
pub mod Sound
