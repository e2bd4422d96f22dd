pub mod WholePages
