pub mod Filter
pub mod Nibbles
pub mod Weights
pub mod Bounds
