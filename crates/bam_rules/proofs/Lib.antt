pub mod RunLaws
pub mod WholeLaws
