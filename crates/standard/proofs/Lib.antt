pub mod Collecting
pub mod Fleets
pub mod Limits
pub mod Offsets
pub mod Order
pub mod SledLists
