pub mod EndLaws
pub mod RunLaws
