mod MemoryLemmas
mod Steps
