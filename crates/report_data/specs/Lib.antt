pub mod Fields
pub mod Rulings
