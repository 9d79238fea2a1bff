pub mod FieldLaws
pub mod FaultLaws
pub mod LoopLaws
pub mod GatheringLaws
pub mod GroupLaws
pub mod WriteLaws
pub mod KnownLaws
pub mod CountedLaws
