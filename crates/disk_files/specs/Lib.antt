pub mod Keeping
pub mod Open
pub mod Space
