pub mod Element
pub mod Stored
