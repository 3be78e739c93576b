pub mod Model
pub mod Table
pub mod Least
pub mod Forbids
pub mod Engine
pub mod Calls
pub mod WellFormed
pub mod Scans
