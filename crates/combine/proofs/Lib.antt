-- The laws of what combining answers, and of its figures.
pub mod Average
mod Joined
mod Rounded
pub mod Overflow
pub mod Swap
pub mod Weight
pub mod Worked
