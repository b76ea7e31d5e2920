pub mod Outside
pub mod Facts
