pub mod Seen
pub mod Lawful
pub mod Unread
