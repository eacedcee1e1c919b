pub mod Ranges
pub mod PlaceLaws
pub mod TableLaws
pub mod MarkLaws
pub mod Orders
