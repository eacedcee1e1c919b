pub mod SaidLines
pub mod LastLine
