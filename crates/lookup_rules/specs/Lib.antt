pub mod Lookup
pub mod Examined
pub mod Meaning
