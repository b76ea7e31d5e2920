pub mod Links
pub mod Bounds
