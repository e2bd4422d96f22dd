pub mod World
pub mod Result
pub mod Named
