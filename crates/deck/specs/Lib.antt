pub mod Slips
pub mod Decks
pub mod Releasing
pub mod Law
pub mod Runs
pub mod Calls
pub mod Workings
