pub mod Runs
pub mod Parting
pub mod Together
pub mod Unrefused
