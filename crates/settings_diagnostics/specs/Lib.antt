pub mod Warnings
pub mod Keys
pub mod Nearest
pub mod Pools
pub mod Refusing
pub mod KeyRules
pub mod Pairing
