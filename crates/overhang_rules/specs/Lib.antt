pub mod Reach
pub mod Overhang
pub mod InnerSides
