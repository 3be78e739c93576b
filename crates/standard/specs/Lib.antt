pub mod Collected
pub mod JobFleets
