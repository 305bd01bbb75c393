pub mod InnerWalked
