pub mod Clips
pub mod InnerWalked
