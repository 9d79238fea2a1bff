-- Lemmas that the laws cite, with their proofs. What is defined here serves them, and no public contract names it.
pub mod UntakenLaws
