pub mod Exchanges
pub mod Talks
