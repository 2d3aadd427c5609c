pub mod Bits
pub mod Bytes
pub mod Choice
pub mod Listed
pub mod Signed
pub mod Unsigned
