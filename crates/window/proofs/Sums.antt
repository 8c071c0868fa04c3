pub mod Windows
pub mod Five
pub mod Column
pub mod Folded
pub mod Stores
pub mod Held
