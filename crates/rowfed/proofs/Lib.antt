mod Held
pub mod Accept
mod Tidied
pub mod Given
pub mod Reached
pub mod Grouping
