mod Flags
mod LineEnd
mod Twice
