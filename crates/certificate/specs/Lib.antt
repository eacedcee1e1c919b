pub mod Spelling
pub mod Lines
pub mod Faults
pub mod Laws
pub mod Parsing
