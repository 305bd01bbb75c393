pub mod CallLaws
pub mod Promised
