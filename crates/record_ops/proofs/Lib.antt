pub mod OpLaws
