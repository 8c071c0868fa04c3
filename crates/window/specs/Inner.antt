pub mod Parts
pub mod Columns
