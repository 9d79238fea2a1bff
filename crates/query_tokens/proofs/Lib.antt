pub mod Ascii
pub mod Quotes
pub mod Numerals
pub mod Steps
pub mod Pieces
pub mod Ends
pub mod Places
pub mod Wholes
