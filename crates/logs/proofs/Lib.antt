pub mod Decided
pub mod Printing
pub mod Going
pub mod Opened
pub mod Called
pub mod Ran
pub mod Once
pub mod Printed
