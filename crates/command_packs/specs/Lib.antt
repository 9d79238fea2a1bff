pub mod Options
pub mod Packing
