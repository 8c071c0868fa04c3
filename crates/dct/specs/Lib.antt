pub mod Limits
pub mod Block
pub mod Call
pub mod Inner
