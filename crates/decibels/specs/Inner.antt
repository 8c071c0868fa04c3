pub mod Chart
pub mod Room
