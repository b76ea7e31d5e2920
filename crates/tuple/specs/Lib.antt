pub mod Tuple
pub mod Sound
pub mod Facts
