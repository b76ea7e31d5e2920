pub mod Survey
pub mod File
pub mod Facts
pub mod Check
pub mod ReadsBack
