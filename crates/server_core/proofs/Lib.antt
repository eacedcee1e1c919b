pub mod Lists
pub mod LineReceipts
pub mod Entered
pub mod Shown
pub mod Forgotten
mod Kept
mod Owed
mod Said
mod Front
mod Legal
mod Moments
mod Keeping
mod Starts
