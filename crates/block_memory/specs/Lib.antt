pub mod BlockLends
pub mod Cells
pub mod Fields
pub mod Lends
pub mod Ownership
pub mod Words
pub mod CellLaws
pub mod Lemmas
