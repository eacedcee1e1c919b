pub mod Contact
pub mod Hearing
pub mod Joining
pub mod Receiving
pub mod Saying
pub mod Sending
pub mod Serials
