pub mod ArgumentSteps
pub mod Halves
pub mod RowLaws
pub mod CombiningSteps
