pub mod Stored
pub mod Summed
