pub mod DeliveredMessages
pub mod Chains
pub mod Claim
pub mod Search
