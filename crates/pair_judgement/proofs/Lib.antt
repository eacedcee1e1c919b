pub mod Early
pub mod Settings
pub mod SameSettings
pub mod CarriedLines
