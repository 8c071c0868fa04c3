mod Folds
pub mod Numbers
mod Sizes
mod Walks
pub mod WholeVariance
mod Quarters
mod Levels
mod Mapped
