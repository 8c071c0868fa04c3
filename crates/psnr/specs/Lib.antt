pub mod Limits
pub mod Squared
pub mod Record
pub mod Series
pub mod Said
pub mod Inner
