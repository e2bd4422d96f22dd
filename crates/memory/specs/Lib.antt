-- Store, links and directory together.
pub mod Memory
