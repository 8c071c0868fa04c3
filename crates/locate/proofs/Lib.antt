mod Places
mod Sides
mod Sums
mod Rows
mod Accept
pub mod Found
pub mod Total
