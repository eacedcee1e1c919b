pub mod MailDates
pub mod LocalTimes
