pub mod Order
pub mod Fit
pub mod Answer
pub mod Compare
pub mod Comparison
pub mod Rows
