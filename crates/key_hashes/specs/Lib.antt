pub mod Hashes
pub mod SipHashes
