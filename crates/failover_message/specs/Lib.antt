pub mod Frames
pub mod Parsing
pub mod Faults
pub mod Stream
pub mod Laws
