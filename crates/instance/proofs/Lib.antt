pub mod Making
pub mod Past
pub mod TwoSleds
