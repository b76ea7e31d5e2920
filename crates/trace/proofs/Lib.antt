pub mod Lines
pub mod Facts
pub mod Answered
pub mod Says
