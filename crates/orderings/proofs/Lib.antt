pub mod Positions
pub mod Exponents
pub mod Judging
pub mod Lines
pub mod Compared
pub mod Places
