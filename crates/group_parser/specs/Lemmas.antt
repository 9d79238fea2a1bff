-- Lemmas that other crates cite, with their proofs. What is defined here serves them, and no public contract names it.
pub mod ParseLaws
pub mod PrintLaws
pub mod FrontLaws
