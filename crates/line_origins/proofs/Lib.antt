pub mod Fitting
pub mod Stepping
mod Truth
