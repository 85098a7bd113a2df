pub mod Told
pub mod ByNumber
