pub mod Each
pub mod Outcomes
