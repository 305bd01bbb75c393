pub mod Text
pub mod Valid
pub mod Strict
pub mod Meaning
