pub mod Digits
pub mod Filling
pub mod Listing
