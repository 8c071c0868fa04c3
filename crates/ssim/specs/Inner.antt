pub mod Walk
pub mod Sound
