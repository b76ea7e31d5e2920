pub mod Grammar
pub mod Encoding
pub mod Terminated
pub mod Progress
