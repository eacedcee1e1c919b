pub mod Parts
pub mod UnixTimes
pub mod DateTimes
pub mod MailDates
pub mod ReportTimes
