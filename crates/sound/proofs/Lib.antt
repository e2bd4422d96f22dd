pub mod Numbered
pub mod Clauses
pub mod EntryRows
pub mod Times
