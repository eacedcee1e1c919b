pub mod Octets
pub mod PaddedLaws
pub mod Duid
