pub mod Fitting
pub mod Results
pub mod Seeded
