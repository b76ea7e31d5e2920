pub mod Samples
pub mod Check
pub mod Answers
pub mod Facts
