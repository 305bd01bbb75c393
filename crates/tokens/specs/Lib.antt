pub mod InnerToken
