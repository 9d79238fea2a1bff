-- What the canonical text of a query says. All of this is our own.
pub use Rattle.query_checks.specs.Spelling.{canonical}
