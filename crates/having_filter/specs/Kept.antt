-- What a query keeps, and what HAVING reads.
use Rattle.std.specs.Prelude.{◌≡◌, ℕ, ◌<◌, ◌≤◌, List, [], map, length, slice_get, Ok, option_map, unwrap_or}
use Rattle.std.specs.List.{AllByRecursion}
use Rattle.grouping_model.specs.Datum.{Kind, Row, HasKinds}
use Rattle.grouping_model.specs.Query as query
use Rattle.grouping_model.specs.Query.{Aggregate}
use Rattle.grouping_model.specs.Grouping.{argument}
use Rattle.grouping_model.specs.declared.limits.TheConstants.{MAX_ITEMS, MAX_KEYS, MAX_CALLS}
use Rattle.agg_protocol.specs.Arguments.{Takes}
use Rattle.packed_rows.specs.Columns.{Column, AreColumns}
use Rattle.query_checks.specs.Forms.{Written, map_form}
use Rattle.query_checks.specs.Checks.{Checked, checked}
use Rattle.query_checks.specs.declared.order.OrderTerm.{OrderTerm}
use Rattle.query_checks.specs.Order.{Asked}
pub use Rattle.query_checks.specs.Spelling.{label_of}
use Rattle.query_checks.specs.Arrangement.{canonical_arrangement}
use Rattle.query_checks.specs.Writable.{CanBeAsked}
use Rattle.having_filter.specs.Meaning.{meaning}

-- the name of the column at a place (own)
abbrev pub name_at : List Column → ℕ → List ℕ
name_at columns place = unwrap_or (option_map (λ c. c.name) (slice_get columns place)) []

-- a checked query over the names of its columns again, and its terms of ORDER BY by the places of items (own)
abbrev pub written_by_names : List Column → Written ℕ → Written (List ℕ)
written_by_names columns q =
    record {
      items = map (λ item. (map_form (name_at columns) item.0, item.1)) q.items;
      condition = option_map (map_form (name_at columns)) q.condition;
      keys = map (name_at columns) q.keys;
      having = option_map (map_form (name_at columns)) q.having;
    }

abbrev pub by_names : Checked → Asked
by_names q = record { written = written_by_names q.columns q.written; arrangement = canonical_arrangement q.arrangement }

-- the names of the columns of an answer (PostgreSQL 17, 7.3.2 Column Labels)
abbrev pub headers : Checked → List (List ℕ)
headers q = map label_of (by_names q).written.items

-- over rows of these kinds, an aggregate takes the values of its column (PostgreSQL 17, 9.21)
pub record TakesRows (kinds : List Kind) (aggregate : Aggregate) : Type 0 where
  pub takes : (row : Row) → HasKinds kinds row → Takes aggregate.function (argument aggregate.column row)

-- what evaluation relies on in a checked query: its keys are columns of the table, its aggregates take the values of
-- their columns, and there are not too many of either (own)
pub record IsWellFormed (q : query.Query) : Type 0 where
  pub keys : AllByRecursion (λ place. place < length q.kinds) q.keys
  pub aggregates : AllByRecursion (TakesRows q.kinds) q.aggregates
  pub few_items : length q.items ≤ MAX_ITEMS
  pub few_keys : length q.keys ≤ MAX_KEYS
  pub few_aggregates : length q.aggregates ≤ MAX_CALLS

-- a term orders by one of these items (own)
pub record IsTermOf {A : Type 0} (items : List A) (term : OrderTerm) : Type 0 where
  pub within : term.item < length items

-- a query that passed all checks, over the columns of a schema: its own text passes them and says it again (own)
pub record IsCheckedQuery (q : Checked) : Type 0 where
  pub columns_are : AreColumns q.columns
  pub writable : CanBeAsked (by_names q)
  pub passed : checked q.columns (by_names q) ≡ Ok q
  pub well_formed : IsWellFormed (meaning q)
  pub ordered : AllByRecursion (IsTermOf q.written.items) q.arrangement.order
