-- When an entry is kept, on plain facts.
pub mod Fair
