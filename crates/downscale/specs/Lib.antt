pub mod Summed
pub mod Inner
