pub mod Sessions
pub mod Coding
pub mod Places
pub mod Statuses
pub mod Calls
