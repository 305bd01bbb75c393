pub mod Run
pub mod Pieces
pub mod InnerScan
pub mod Readers
