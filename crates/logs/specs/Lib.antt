pub mod Session
pub mod Told
pub mod Promised
pub mod Input
pub mod Laws
