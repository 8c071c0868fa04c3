pub mod Rows
pub mod Chart
pub mod Inner
