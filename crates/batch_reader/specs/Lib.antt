pub mod Head
pub mod Rows
pub mod Refusal
pub mod File
pub mod Views
pub mod RecordLaws
pub mod Names
pub mod Lemmas
