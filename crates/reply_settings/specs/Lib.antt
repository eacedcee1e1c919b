pub mod Values
pub mod Keys
