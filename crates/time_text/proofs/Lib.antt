pub mod Decimals
pub mod Forms
pub mod Months
pub mod Written
pub mod Years
