pub mod Serves
pub mod Grids
pub mod Idle
pub mod Sums
pub mod Centre
pub mod Demand
pub mod Visible
