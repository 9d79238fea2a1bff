pub mod Table
pub mod Writer
pub mod Aligned
pub mod Tsv
pub mod Json
pub mod AnswerColumns
pub mod Growing
pub mod GrowingLaws
