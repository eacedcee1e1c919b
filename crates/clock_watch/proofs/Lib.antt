pub mod RecordLaws
pub mod WatchLaws
