pub mod Limits
pub mod Plane
pub mod Sums
pub mod Tests
pub mod Inner
