pub mod CodeLaws
pub mod RuleLaws
pub mod BeyondLaws
pub mod AnswerLaws
