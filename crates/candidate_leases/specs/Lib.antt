pub mod Conditions
pub mod Near
pub mod Leases
pub mod Why
pub mod Laws
