pub mod Names
pub mod Packing
pub mod Table
