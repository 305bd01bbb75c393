pub mod Up
pub mod Listing
