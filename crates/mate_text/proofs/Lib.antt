pub mod PieceSteps
pub mod Sums
pub mod Trails
