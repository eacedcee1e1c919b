pub mod Listed
pub mod Asked
mod Tied
pub mod AnyParts
pub mod Copied
