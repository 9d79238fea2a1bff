pub mod Refusals
pub mod Names
pub mod Batches
pub mod QueryLaws
pub mod BatchLaws
pub mod RefusalLaws
pub mod FeedLaws
pub mod Lemmas
