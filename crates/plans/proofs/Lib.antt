pub mod Steps
pub mod Collisions
pub mod Tests
pub mod Terms
pub mod Routes
pub mod Plans
pub mod Promise
