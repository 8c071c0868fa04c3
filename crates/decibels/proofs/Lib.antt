-- What the functions' proofs use and no one function owns, and the laws about decibels.
mod Largest
mod Powers
mod Entries
mod Room
mod Suits
mod Table
pub mod Charted
pub mod Places
mod Search
pub mod Bounds
pub mod Ratio
pub mod Worked
pub mod Series
pub mod Given
pub mod Answered
