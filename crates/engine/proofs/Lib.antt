mod RowLaws
mod SessionLaws
mod StatusLaws
