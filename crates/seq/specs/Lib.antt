pub mod Sequence
pub mod Lists
