pub mod CutLacks
pub mod Alone
