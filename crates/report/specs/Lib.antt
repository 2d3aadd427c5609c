pub mod Digest
pub mod Hex
pub mod Input
pub mod Runs
