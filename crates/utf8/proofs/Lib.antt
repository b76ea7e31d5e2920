pub mod Forms
pub mod Points
pub mod Encoding
pub mod Read
pub mod Progress
pub mod Facts
pub mod Examples
