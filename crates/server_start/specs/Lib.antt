pub mod Opening
pub mod FirstLines
pub mod Agreement
pub mod Clock
pub mod Starting
