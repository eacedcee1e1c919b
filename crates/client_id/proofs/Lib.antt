pub mod Filling
pub mod TextLaws
