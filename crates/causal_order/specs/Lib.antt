pub mod Naming
pub mod WrittenOrder
pub mod Journals
pub mod Order
pub mod LineOrder
pub mod Tests
pub mod Bounds
