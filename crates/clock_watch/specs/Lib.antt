pub mod Watching
pub mod Laws
pub mod Boots
pub mod Recording
pub mod Parsing
pub mod Starts
