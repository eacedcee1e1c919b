pub mod Locals
pub mod Says
