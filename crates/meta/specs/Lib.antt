pub mod Names
pub mod Facts
