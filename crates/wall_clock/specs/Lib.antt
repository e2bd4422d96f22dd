pub mod Wall
