pub mod Text
pub mod KnownTables
pub mod Printed
pub mod PrintedLaws
pub mod Status
pub mod ReplyLaws
