pub mod Bitmaps
pub mod ByteRuns
pub mod ByteRows
