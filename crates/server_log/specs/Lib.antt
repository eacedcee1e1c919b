pub mod RateLimits
pub mod Watches
pub mod Refusals
pub mod RefusedPorts
