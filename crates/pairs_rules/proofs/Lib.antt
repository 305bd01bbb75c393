pub mod PairLaws
pub mod Needed
pub mod Edges
