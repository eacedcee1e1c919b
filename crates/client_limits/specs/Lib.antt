pub mod GrantRecords
pub mod Holders
pub mod Limiting
pub mod Origins
pub mod Quotas
pub mod Contexts
pub mod Rates
