pub mod Telling
pub mod Question
pub mod Pieces
pub mod Foreign
pub mod Refusing
pub mod Whole
pub mod Reasons
