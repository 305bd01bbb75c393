pub mod TextLaws
pub mod LetterLaws
