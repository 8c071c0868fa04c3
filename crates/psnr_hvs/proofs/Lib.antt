pub mod Blocks
mod Taken
pub mod Visible
