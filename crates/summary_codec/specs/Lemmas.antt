-- Lemmas that other crates cite, with their proofs. What is defined here serves them, and no public contract names it.
pub mod Words
pub mod VersionLaws
pub mod RisingLaws
pub mod LoopLaws
pub mod GroupLaws
pub mod LengthLaws
pub mod ReaderLaws
pub mod OneReading
pub mod WrittenRead
pub mod SpelledRead
pub mod TotalLaws
pub mod RowGroups
pub mod TextLaws
pub mod ReadQueries
pub mod WorldLaws
