pub mod Boards
pub mod Coordinates
pub mod Made
