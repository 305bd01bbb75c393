pub mod InnerLookup
