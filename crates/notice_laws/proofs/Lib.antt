pub mod Beginnings
pub mod SaidItems
pub mod Whole
pub mod SoFar
