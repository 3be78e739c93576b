pub mod Collisions
pub mod Overlaps
pub mod Shares
pub mod Stands
