pub mod Fronts
pub mod Elements
