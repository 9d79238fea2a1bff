pub mod Partitions
pub mod Standing
pub mod Fields
pub mod Errors
pub mod Lemmas
