pub mod EightDots
