pub mod Md
pub mod Rule
pub mod Meaning
pub mod InnerWalk
