pub mod Until
pub mod Facts
