pub mod DigitLaws
pub mod Meaning
