pub mod Plain
pub mod Limits
pub mod Search
pub mod Collected
