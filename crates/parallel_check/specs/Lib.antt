pub mod Verdicts
pub mod Counting
pub mod Drawing
pub mod Findings
pub mod Sharing
