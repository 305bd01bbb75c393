pub mod Receiving
pub mod Meaning
pub mod InnerCompared
