pub mod OrderLaws
pub mod LineLaws
