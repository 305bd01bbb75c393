pub mod Fill
pub mod Tied
