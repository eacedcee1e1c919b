pub mod Asking
pub mod Searches
pub mod Walking
pub mod Truth
pub mod Stretches
pub mod Telling
pub mod Laws
