pub mod Inputs
pub mod Passes
pub mod Waiting
pub mod Means
pub mod Counting
pub mod Ran
pub mod Added
pub mod Lemmas
