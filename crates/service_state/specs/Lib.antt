pub mod Service
pub mod Speaking
pub mod Statuses
