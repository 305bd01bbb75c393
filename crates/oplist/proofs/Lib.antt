pub mod OpsLaws
