pub mod Notes
pub mod NameNotes
