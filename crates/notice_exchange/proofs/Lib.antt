pub mod Pools
pub mod Among
pub mod Steps
