pub mod W
pub mod FlexFile
pub mod B
pub mod Opening
pub mod Walks
pub mod HotPaths
