pub mod Walk
pub mod Fold
