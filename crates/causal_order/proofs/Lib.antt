pub mod Orders
pub mod Sameness
pub mod Deciding
pub mod Walking
pub mod Clocks
pub mod LineOrder
