pub mod Sheet
pub mod Book
pub mod History
pub mod Read
