pub mod Errors
pub mod Records
pub mod Pages
pub mod Tape
pub mod Tapes
pub mod TapesFields
