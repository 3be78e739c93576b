pub mod Board
pub mod Cells
pub mod Floors
pub mod Horizons
pub mod Moves
pub mod Places
