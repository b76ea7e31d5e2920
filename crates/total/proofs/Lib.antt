pub mod Tallies
pub mod Loop
pub mod Firsts
pub mod Cases
pub mod Facts
