pub mod Plain
pub mod Inner
