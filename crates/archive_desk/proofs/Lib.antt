pub mod Dropping
mod Spans
mod Pendings
mod Taken
pub mod NoneUnread
