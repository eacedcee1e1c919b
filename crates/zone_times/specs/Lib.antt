pub mod Local
pub mod Shown
