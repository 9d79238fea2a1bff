pub mod Keeping
pub mod Coding
pub mod Calls
