pub mod Plain
pub mod Blank
pub mod Standing
pub mod Left
pub mod Columns
pub mod Packed
pub mod Refusal
