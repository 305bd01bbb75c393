pub mod InnerRead
