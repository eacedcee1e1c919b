pub mod Parsing
pub mod Cuts
pub mod Number
pub mod Octets
