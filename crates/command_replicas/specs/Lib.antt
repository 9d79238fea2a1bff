pub mod Commands
pub mod Results
pub mod Outcomes
pub mod ResultLaws
pub mod Lemmas
