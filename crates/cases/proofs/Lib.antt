pub mod Opens
pub mod Cases
pub mod FromMark
pub mod Packed
pub mod Parents
pub mod HotPaths
