pub mod RecordLaws
pub mod FileLaws
