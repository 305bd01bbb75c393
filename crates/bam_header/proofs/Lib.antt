pub mod HeadLaws
pub mod WrittenLaws
pub mod Examples
