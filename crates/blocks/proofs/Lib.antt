pub mod BlockLaws
pub mod TiedLaws
