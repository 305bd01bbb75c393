pub mod FrameLaws
pub mod StreamLaws
pub mod MarkLaws
