pub mod RecordFacts
pub mod DigitFacts
pub mod ListFacts
pub mod OutputFacts
