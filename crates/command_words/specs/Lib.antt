pub mod Bytes
pub mod LineEnd
pub mod Streams
pub mod Subcommands
pub mod Told
