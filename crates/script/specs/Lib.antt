pub mod File
pub mod Line
pub mod Show
