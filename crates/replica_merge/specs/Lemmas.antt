-- Lemmas that the laws and other crates cite, with their proofs. What is defined here serves them, and no public contract names it.
pub mod Words
pub mod ToldLaws
pub mod DeliveredLaws
pub mod MergedLaws
pub mod EmptyLaws
