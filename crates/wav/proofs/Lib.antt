pub mod Back
pub mod Files
pub mod Numbers
pub mod Riff
pub mod Rows
pub mod Seen
