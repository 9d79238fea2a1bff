pub mod Handles
pub mod Exports
