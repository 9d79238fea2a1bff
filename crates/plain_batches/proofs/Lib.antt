pub mod ReadingFacts
pub mod BlankLaws
pub mod FileLaws
pub mod PlainLaws
pub mod FaultLaws
pub mod PackedLaws
