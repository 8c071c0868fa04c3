mod Row
pub mod Answer
pub mod Lawful
