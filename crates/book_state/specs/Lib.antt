pub mod Book
pub mod HeadOrder
pub mod Effects
pub mod Places
pub mod Changes
