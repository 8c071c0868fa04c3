pub mod Ring
pub mod Taken
pub mod Inner
