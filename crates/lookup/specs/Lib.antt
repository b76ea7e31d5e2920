pub mod Lookup
pub mod Demand2
