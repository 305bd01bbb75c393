pub mod True
