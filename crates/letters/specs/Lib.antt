pub mod Letters
pub mod InnerRow
