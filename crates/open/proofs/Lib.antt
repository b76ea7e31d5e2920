pub mod Pointers
pub mod Answer
pub mod Keeps
pub mod Inside
pub mod Stages
pub mod Given
