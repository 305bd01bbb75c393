pub mod ParsedLaws
pub mod PutLaws
