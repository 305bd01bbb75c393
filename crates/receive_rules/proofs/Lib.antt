pub mod SameLaws
pub mod WalkLaws
pub mod OpLaws
pub mod HeaderLaws
pub mod AnswerLaws
pub mod MeaningLaws
pub mod CallLaws
