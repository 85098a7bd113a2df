pub mod Numbers
pub mod Words
pub mod Line
pub mod Report
pub mod Written
