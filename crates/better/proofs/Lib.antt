mod Judging
pub mod Laws
