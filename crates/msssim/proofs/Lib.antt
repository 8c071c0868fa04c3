mod ScalePairs
pub mod Scratch
mod Accept
pub mod Visible
pub mod Demand
