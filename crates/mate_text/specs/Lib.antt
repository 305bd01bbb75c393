pub mod Mate
pub mod InnerPiece
