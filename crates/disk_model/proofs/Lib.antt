mod Within
pub mod Lines
pub mod Left
pub mod Calls
pub mod Opening
pub mod Stays
mod Moments
mod Found
mod Known
