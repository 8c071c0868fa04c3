pub mod Downscale
pub mod Winner
