pub mod Validity
pub mod InnerClass
pub mod InnerStages
