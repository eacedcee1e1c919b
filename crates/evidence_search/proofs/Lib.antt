pub mod Passing
pub mod Complete
pub mod Holders
pub mod Widened
