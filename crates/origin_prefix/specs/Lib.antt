pub mod Coding
pub mod Parts
pub mod Errors
pub mod Joins
pub mod Fitting
pub mod Held
pub mod WorldRows
pub mod Lemmas
