pub mod WhiteOutside
