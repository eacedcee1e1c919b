pub mod Pools
pub mod Found
