pub mod Slices
pub mod Going
pub mod Visits
pub mod Measure
pub mod Roots
