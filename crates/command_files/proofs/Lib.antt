pub mod TakingLaws
pub mod ReportingLaws
pub mod RunningLaws
