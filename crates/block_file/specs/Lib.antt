pub mod Pairs
pub mod Facts
