pub mod Commands
pub mod Views
pub mod Lemmas
