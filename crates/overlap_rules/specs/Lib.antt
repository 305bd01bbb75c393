pub mod Overlap
pub mod Bound
