pub mod String
pub mod Facts
