-- Lemmas that other crates cite, with their proofs. What is defined here serves them, and no public contract names it.
pub mod ByNumber
pub mod Lists
pub mod PartLaws
pub mod CountLaws
pub mod DeliverLaws
pub mod TellingLaws
pub mod FittingLaws
pub mod IncludedLaws
