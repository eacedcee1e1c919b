pub mod Left
pub mod Files
pub mod Given
pub mod Heard
pub mod Serials
