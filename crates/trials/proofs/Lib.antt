pub mod Shown
pub mod Terms
