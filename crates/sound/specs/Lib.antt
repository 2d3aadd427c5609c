pub mod Sound
pub mod Brr
pub mod Gauss
pub mod Clock
pub mod Envelope
pub mod Noise
