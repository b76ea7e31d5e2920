pub mod Traversal
pub mod From
pub mod Walk
pub mod Children
pub mod Demand3
pub mod Joined
pub mod Parents
