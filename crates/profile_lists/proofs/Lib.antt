pub mod Tests
pub mod Loops
pub mod Stages
