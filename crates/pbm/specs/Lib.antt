pub mod Pbm
