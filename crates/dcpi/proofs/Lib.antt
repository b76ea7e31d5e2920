pub mod Chunks
pub mod Counts
pub mod Summed
pub mod Rules
pub mod PassOver
pub mod Offsets
pub mod Finding
pub mod Says
