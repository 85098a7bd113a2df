pub mod Printed
pub mod Joined
