pub mod Sound
pub mod Entry
