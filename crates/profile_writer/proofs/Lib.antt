pub mod Tuples
pub mod Profiles
pub mod Whole
pub mod Says
pub mod Example
