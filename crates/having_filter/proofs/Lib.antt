pub mod Words
pub mod ValueLaws
pub mod PlanLaws
pub mod CheckedLaws
pub mod AnswerLaws
pub mod FittingLaws
pub mod OrderingLaws
