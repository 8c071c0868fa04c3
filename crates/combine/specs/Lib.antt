pub mod Combine
