pub mod Fits
pub mod Facts
