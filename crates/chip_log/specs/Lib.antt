pub mod Log
pub mod Measure
