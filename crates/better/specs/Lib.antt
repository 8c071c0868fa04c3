pub mod Better
pub mod Inner
