mod Feeds
mod Lists
mod MoreLeases
pub mod Named
