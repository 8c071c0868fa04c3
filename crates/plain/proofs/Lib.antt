mod Parts
pub mod Rows
pub mod Accept
pub mod Laws
