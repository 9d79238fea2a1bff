-- Lemmas that other crates cite, with their proofs. What is defined here serves them, and no public contract names it.
pub mod Lists
pub mod Fronts
pub mod PassLaws
pub mod CostLaws
pub mod Steps
pub mod WholeGroups
pub mod WorkLaws
pub mod BoundLaws
