pub mod Used
pub mod Text
pub mod Copying
pub mod Laws
