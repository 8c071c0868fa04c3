pub mod Within
pub mod Operation
