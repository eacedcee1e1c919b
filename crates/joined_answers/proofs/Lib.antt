mod Longest
mod Named
pub mod Walk
