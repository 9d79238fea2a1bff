-- The names of what checks of a query refuse, as replies show them. All of this is our own.
use Rattle.std.specs.Prelude.{ℕ, List, codes}
use Rattle.query_checks.specs.declared.error.QueryError.{QueryError}
use Rattle.query_checks.specs.declared.error.QueryError.TheVariants.{NoMemory, NoSuchColumn, NotGrouped, TypeMismatch, AggregateHere}
use Rattle.query_checks.specs.declared.error.QueryError.TheVariants.{TooMany, TooDeep, AmbiguousOrder}

abbrev pub query_name : QueryError → List ℕ
query_name NoMemory = codes "NoMemory"
query_name NoSuchColumn = codes "NoSuchColumn"
query_name NotGrouped = codes "NotGrouped"
query_name TypeMismatch = codes "TypeMismatch"
query_name AggregateHere = codes "AggregateHere"
query_name TooMany = codes "TooMany"
query_name TooDeep = codes "TooDeep"
query_name AmbiguousOrder = codes "AmbiguousOrder"
