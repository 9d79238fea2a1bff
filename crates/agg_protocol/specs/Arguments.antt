-- The arguments of the aggregate functions (PostgreSQL 17, 9.21 Aggregate Functions).
use Rattle.grouping_model.specs.Datum.{Datum, HasKind}
use Rattle.grouping_model.specs.Aggregates.{Function}
use Rattle.agg_protocol.specs.Signatures.{Argument, Each_row, Any_value, Values_of, signature}

-- a value of an argument: any value, or one that a column of the kind can have, null among them
abbrev pub IsArgument : Argument → Datum → Type 0
IsArgument Each_row value = Unit {0}
IsArgument Any_value value = Unit {0}
IsArgument (Values_of kind) value = HasKind kind value

-- a value that may be a function's argument
abbrev pub Takes : Function → Datum → Type 0
Takes function value = IsArgument (signature function).argument value
