pub mod Slices
pub mod Checks
pub mod Lie
