mod Statuses
pub mod Onward
mod Listed
pub mod Truth
mod Trials
