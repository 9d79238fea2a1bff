-- Lemmas that other crates cite, with their proofs. What is defined here serves them, and no public contract names it.
pub mod PrefixLaws
pub mod AggregateLaws
pub mod CombiningLaws
pub mod UnionLaws
pub mod PartLaws
pub mod TransitionLaws
pub mod AnswerLaws
pub mod LearningLaws
pub mod GroupLaws
