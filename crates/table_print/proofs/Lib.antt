pub mod RowLaws
pub mod WriterLaws
pub mod AlignedLaws
pub mod JsonLaws
pub mod NameLaws
pub mod AnswerColumnLaws
