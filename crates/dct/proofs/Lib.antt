pub mod Blocks
pub mod Round
pub mod Bound
mod Range
pub mod Calls
pub mod Residues
