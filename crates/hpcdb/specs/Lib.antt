pub mod Value
pub mod Strings
