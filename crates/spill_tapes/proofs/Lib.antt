pub mod PageLaws
pub mod PoolLaws
pub mod TapeLaws
pub mod HeaderLaws
pub mod TapesLaws
