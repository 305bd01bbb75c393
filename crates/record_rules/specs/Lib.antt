pub mod Written
pub mod Clipping
pub mod Reading
pub mod InnerPlan
