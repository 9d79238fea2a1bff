pub mod Words
pub mod Bytes
pub mod Tokens
pub mod Spelling
pub mod Reserved
pub mod Wholes
pub mod EndLaws
pub mod Lemmas
