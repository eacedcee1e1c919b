pub mod UsedLaws
pub mod LineTexts
mod Written
mod Shown
mod Copies
