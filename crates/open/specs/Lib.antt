pub mod Format
pub mod Names
pub mod Opening
pub mod Kept
pub mod Given
