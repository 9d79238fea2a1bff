pub mod Fronts
pub mod Readers
