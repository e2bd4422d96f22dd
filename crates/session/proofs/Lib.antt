pub mod LabelMade
