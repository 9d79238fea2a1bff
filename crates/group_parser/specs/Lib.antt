pub mod Views
pub mod Nots
pub mod Parsing
pub mod Fronts
pub mod Names
pub mod Lemmas
