pub mod ReplyPolicy
pub mod Messages
