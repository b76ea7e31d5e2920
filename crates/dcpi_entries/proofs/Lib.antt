pub mod Bytes
pub mod Putting
pub mod Answers
pub mod Readback
pub mod Says
pub mod Example
