mod LineLaws
pub mod Steps
mod Moments
