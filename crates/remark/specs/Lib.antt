pub mod Marking
pub mod Answer
pub mod Laws
