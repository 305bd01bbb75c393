pub mod Alignments
pub mod WalkLaws
pub mod FitLaws
pub mod BlockLaws
pub mod Covered
pub mod Stretches
pub mod AnswerLaws
