pub mod ByteLaws
pub mod ValidLaws
pub mod GrammarLaws
