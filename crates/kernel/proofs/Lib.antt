pub mod Computed
pub mod Idle
pub mod Says
pub mod Copy
