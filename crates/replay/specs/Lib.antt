pub mod Records
pub mod Machine
pub mod Block
pub mod Interpolation
pub mod Envelope
pub mod Noise
pub mod Leaves
pub mod Parts
