pub mod Groups
pub mod Distinct
pub mod Readback
pub mod Round
pub mod Example
