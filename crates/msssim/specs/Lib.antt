pub mod Scale
pub mod Scratch
pub mod Answer
pub mod Inner
