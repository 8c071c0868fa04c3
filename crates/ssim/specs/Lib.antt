pub mod Score
pub mod Scratch
pub mod Answer
pub mod Inner
