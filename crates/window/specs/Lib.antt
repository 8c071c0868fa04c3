pub mod Moments
pub mod Inner
