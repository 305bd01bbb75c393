pub mod Border
pub mod Plain
