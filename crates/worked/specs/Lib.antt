pub mod Sets
pub mod Seeded
