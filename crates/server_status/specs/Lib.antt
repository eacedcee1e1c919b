pub mod Words
pub mod Counts
pub mod Syncs
pub mod Serving
