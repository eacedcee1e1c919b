pub mod Ready
pub mod Given
pub mod Choosing
pub mod Names
