pub mod Calendar
pub mod Time
