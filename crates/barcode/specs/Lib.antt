pub mod Bars
pub mod Gap
pub mod Exceeded
pub mod BarSets
pub mod Rise
pub mod Sorting
pub mod BarCode
pub mod KeptBars
