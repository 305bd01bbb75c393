pub mod InnerLevels
