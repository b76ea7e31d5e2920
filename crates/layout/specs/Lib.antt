pub mod Bytes
pub mod Many
pub mod Stands
pub mod Octets
