pub mod Allowed
pub mod Done
pub mod Begun
pub mod Surviving
