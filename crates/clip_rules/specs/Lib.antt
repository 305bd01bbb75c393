pub mod Clipping
pub mod Answer
pub mod InnerPlan
