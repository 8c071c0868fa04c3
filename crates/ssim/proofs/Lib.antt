pub mod Powers
mod Same
pub mod Accept
pub mod Asked
pub mod Idle
pub mod Worked
pub mod Visible
