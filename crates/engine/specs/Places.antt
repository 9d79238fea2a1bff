-- The place of a refusal, as a caller from outside is told it: what its two numbers are, and these. All of this is our own.
use Rattle.std.specs.Prelude.{ℕ, None, Some}
use Rattle.batch_reader.specs.declared.error.BatchError.TheVariants as batch
use Rattle.group_parser.specs.declared.error.ParseError.TheVariants as parse
use Rattle.refusals.specs.declared.refusal.Refusal.{Refusal}
use Rattle.refusals.specs.declared.refusal.Refusal.TheVariants.{Query, Batch, OriginDisagrees}
use Rattle.engine.specs.declared.place.Place.{Place}

abbrev pub numbers : (kind first second : ℕ) → Place
numbers kind first second = record { kind = kind; first = first; second = second }

-- a byte of the query's text, a row, a row and a column, an origin, or an origin and the number of a batch; else none is known
abbrev pub place_of : Refusal → Place
place_of (Query (parse.Syntax at)) = numbers 1 at 0
place_of (Batch (batch.WrongWidth row)) = numbers 2 row 0
place_of (Batch (batch.BadField row column)) = numbers 3 row column
place_of (OriginDisagrees origin None) = numbers 4 origin 0
place_of (OriginDisagrees origin (Some number)) = numbers 5 origin number
place_of why = numbers 0 0 0
