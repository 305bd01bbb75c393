pub mod TurnLaws
pub mod RunLaws
pub mod WholeLaws
