pub mod FieldLaws
pub mod RowLaws
pub mod SharedLaws
pub mod OrderLaws
pub mod ColumnLaws
pub mod DescribedColumns
