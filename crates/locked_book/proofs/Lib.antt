pub mod Lists
pub mod Same
pub mod Rising
pub mod Legal
pub mod Receipts
