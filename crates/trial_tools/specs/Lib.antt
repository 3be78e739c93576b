pub mod Fields
pub mod Throws
