-- The clauses after HAVING, which arrange the rows of the answer: ORDER BY (PostgreSQL 17, SELECT). What a query over names and one over
-- places has of them, their check and their text stand here. All other definitions pass them on whole.
use Rattle.std.specs.Prelude.{ℕ, List, map, Result, Ok, Err, if◌then◌else◌}
use Rattle.std.specs.List.{AllByRecursion}
use Rattle.grouping_model.specs.Order.{Arrangement, map_arrangement}
use Rattle.query_checks.specs.declared.condition.RawQuery.{RawQuery}
use Rattle.query_checks.specs.declared.order.OrderTerm.{OrderTerm}
use Rattle.query_checks.specs.declared.arrangement.Arrangement as code
use Rattle.query_checks.specs.declared.error.QueryError.{QueryError}
use Rattle.query_checks.specs.declared.error.QueryError.TheVariants.{AmbiguousOrder}
use Rattle.query_checks.specs.Forms.{written_of}
use Rattle.query_checks.specs.Order.{Term, Asked, term_of, order_of, is_ambiguously_ordered, canonical_term, order_text, IsTerm}

-- what the code reads, and what it holds
abbrev pub asked_of : RawQuery → Asked
asked_of raw = record { written = written_of raw; arrangement = record { order = map term_of raw.order.items } }

abbrev pub arrangement_held : code.Arrangement → Arrangement OrderTerm
arrangement_held held = record { order = held.order.items }

-- how the rows of the answer are arranged
abbrev pub arrangement_of : Asked → Arrangement OrderTerm
arrangement_of q = record { order = order_of q }

-- the check that comes last
unfoldable pub checked_arrangement : Asked → Result (Arrangement OrderTerm) QueryError
checked_arrangement q = if is_ambiguously_ordered q then Err AmbiguousOrder else Ok (arrangement_of q)

-- the clauses that the canonical text says, and that text
abbrev pub canonical_arrangement : Arrangement OrderTerm → Arrangement Term
canonical_arrangement arrangement = map_arrangement canonical_term arrangement

abbrev pub arrangement_text : Arrangement OrderTerm → List ℕ
arrangement_text arrangement = order_text arrangement.order

-- clauses that a text can have
pub record CanBeArranged (arrangement : Arrangement Term) : Type 0 where
  pub terms : AllByRecursion IsTerm arrangement.order
