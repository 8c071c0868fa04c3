pub mod Where
pub mod Map
pub mod Inner
