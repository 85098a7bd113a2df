pub mod Terms
pub mod Made
