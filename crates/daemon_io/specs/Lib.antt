pub mod ConnectionWrites
pub mod NoticeUses
pub mod Timeouts
