pub mod Function
pub mod Facts
