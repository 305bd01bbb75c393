pub mod Digits
pub mod Steps
pub mod Scans
pub mod Agree
