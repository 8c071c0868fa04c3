pub mod Inner
pub mod Root
pub mod Steps
pub mod Literals
pub mod Limits
