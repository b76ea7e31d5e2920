pub mod Levels
pub mod Facts
