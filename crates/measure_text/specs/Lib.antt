pub mod InnerPass
