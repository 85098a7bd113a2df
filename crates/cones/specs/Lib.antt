pub mod Cones
pub mod Tables
pub mod LimitedRows
pub mod Judged
