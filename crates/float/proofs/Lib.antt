pub mod Finite
pub mod Sums
pub mod Order
pub mod Integers
