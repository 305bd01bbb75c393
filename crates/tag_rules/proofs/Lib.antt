pub mod WalkLaws
pub mod ListLaws
pub mod FrontLaws
pub mod TrueLaws
pub mod HeldLaws
pub mod Examples
