pub mod GrammarLaws
pub mod CigarLaws
pub mod PrintLaws
pub mod AnswerLaws
