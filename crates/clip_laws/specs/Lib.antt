pub mod Demand3
pub mod Drops
pub mod Placement
