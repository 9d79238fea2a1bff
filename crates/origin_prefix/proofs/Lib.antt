pub mod Lists
pub mod EarlyLaws
pub mod PartLaws
pub mod CountLaws
pub mod DeliverLaws
pub mod JoinLaws
pub mod AsideLaws
