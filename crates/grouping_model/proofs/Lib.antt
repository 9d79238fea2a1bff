pub mod UnionLaws
pub mod ConditionLaws
pub mod AnswerLaws
pub mod LearningLaws
