pub mod Leads
pub mod Seeking
pub mod Candidates
pub mod Descending
pub mod Descents
pub mod Answers
pub mod Says
