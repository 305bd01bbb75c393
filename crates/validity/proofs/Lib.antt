pub mod StageLaws
pub mod StepLaws
