pub mod PackLaws
