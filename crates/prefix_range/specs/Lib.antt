pub mod Prefix
pub mod Unit
pub mod Text
pub mod Spelling
pub mod Parsing
pub mod RowOf
