pub mod HotPath
pub mod State
pub mod Facts
