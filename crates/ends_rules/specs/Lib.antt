pub mod Sums
pub mod Tails
pub mod InnerTails
pub mod Ends
