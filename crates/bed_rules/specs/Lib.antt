pub mod Blocks
pub mod Bed
pub mod Meaning
pub mod InnerWalk
