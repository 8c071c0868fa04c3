pub mod Pairs
pub mod Rings
mod Stored
mod Scored
pub mod Rows
pub mod Taken
