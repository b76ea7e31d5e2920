pub mod Count
pub mod Rows
