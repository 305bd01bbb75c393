pub mod TailLaws
pub mod RunMost
pub mod CaseLaws
pub mod Meaning
