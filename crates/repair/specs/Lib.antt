-- A store that came back from a bad card: the call.
pub mod Repair
