pub mod Role
pub mod Unit
pub mod Giving
pub mod Table
pub mod Reply
pub mod Messages
pub mod Statuses
