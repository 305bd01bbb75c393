pub mod Bin
