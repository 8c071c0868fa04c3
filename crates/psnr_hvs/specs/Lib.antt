pub mod Score
pub mod Inner
