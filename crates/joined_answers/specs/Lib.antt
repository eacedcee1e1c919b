pub mod Reach
pub mod Answers
pub mod Starting
pub mod Widening
pub mod Laws
