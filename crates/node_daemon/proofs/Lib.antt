pub mod Ended
pub mod Opened
pub mod Turned
mod Lasting
pub mod Begun
pub mod Shutting
pub mod Waiting
