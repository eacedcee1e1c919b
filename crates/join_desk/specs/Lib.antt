pub mod Choosing
pub mod Joined
pub mod Text
pub mod Telling
pub mod Copying
