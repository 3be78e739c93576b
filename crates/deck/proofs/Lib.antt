pub mod Lawful
pub mod Called
pub mod Calling
