pub mod Header
pub mod Converted
pub mod Inner
pub mod Written
