pub mod State
pub mod Begin
pub mod Feed
pub mod Finish
pub mod Runs
pub mod Inner
