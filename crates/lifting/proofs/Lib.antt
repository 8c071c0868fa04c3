pub mod Size
mod Ring
pub mod Forms
pub mod Trip
