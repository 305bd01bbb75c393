pub mod BitLaws
pub mod CutLaws
