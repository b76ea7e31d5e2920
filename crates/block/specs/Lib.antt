pub mod Block
pub mod OrderKept
pub mod OnePass
pub mod Sound
pub mod Facts
