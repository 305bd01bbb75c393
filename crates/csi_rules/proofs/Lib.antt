pub mod Overlap
pub mod Ranges
pub mod Cases
pub mod Meaning
