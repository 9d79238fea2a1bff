-- Lemmas that other crates cite, with their proofs. What is defined here serves them, and no public contract names it.
pub mod KeyLaws
pub mod FoldLaws
pub mod RanLaws
