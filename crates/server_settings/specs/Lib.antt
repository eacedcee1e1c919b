pub mod Settings
pub mod Document
