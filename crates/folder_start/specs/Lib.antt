pub mod Starting
pub mod Keeping
pub mod Reached
pub mod Pairing
pub mod Reading
pub mod Started
