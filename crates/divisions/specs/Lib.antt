pub mod Laws
pub mod Janet
pub mod Thomas
pub mod Either
pub mod Lawfulness
pub mod Numbered
