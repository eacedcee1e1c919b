pub mod Anew
pub mod Less
pub mod Counts
pub mod Permits
