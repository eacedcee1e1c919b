pub mod Telling
pub mod Serving
pub mod Closing
