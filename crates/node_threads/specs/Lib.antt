pub mod Ending
pub mod Seats
pub mod Sending
pub mod Answered
pub mod Reading
pub mod Writing
pub mod Noticing
