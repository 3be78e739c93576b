pub mod Copies
pub mod Sweeping
