pub mod Literals
pub mod Tables
pub mod Block
pub mod Inner
