pub mod Turn
pub mod Places
