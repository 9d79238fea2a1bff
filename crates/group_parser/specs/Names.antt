-- The names of what is wrong with a query's text, as replies show them. All of this is our own.
use Rattle.std.specs.Prelude.{ℕ, List, codes}
use Rattle.query_checks.specs.Names.{query_name}
use Rattle.group_parser.specs.declared.error.ParseError.{ParseError}
use Rattle.group_parser.specs.declared.error.ParseError.TheVariants.{Syntax, NumberTooLarge, Query}

abbrev pub parse_name : ParseError → List ℕ
parse_name (Syntax at) = codes "Syntax"
parse_name NumberTooLarge = codes "NumberTooLarge"
parse_name (Query error) = query_name error
