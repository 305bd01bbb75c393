pub mod Most
pub mod Places
pub mod ReachLaws
pub mod Mirror
pub mod OverhangLaws
pub mod Meaning
pub mod Gaps
