pub mod Hundredths
pub mod Answer
pub mod Said
pub mod Inner
