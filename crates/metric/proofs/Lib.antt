pub mod Inner
pub mod Says
