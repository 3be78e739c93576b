pub mod Tasks
pub mod Plans
pub mod Instance
pub mod Promise
pub mod Theorems
