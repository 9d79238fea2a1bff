-- The checks of a query, in their order (PostgreSQL 17, SELECT; the limits and the order are our own).
use Rattle.std.specs.Prelude.{◌≡◌, ℕ, ◌+◌, max, ◌==◌, ◌&&◌, ◌||◌, not, nat_le, nat_lt, Bool, true, false, if◌then◌else◌, List, map, length}
use Rattle.std.specs.Prelude.{Option, Some, None, Result, Ok, Err, option_map, unwrap_or, is_some, slice_get}
use Rattle.std.specs.List.{list_all}
use Rattle.std.specs.Option.{option_map_or}
use Rattle.std.specs.Str.{bytes_eq}
use Rattle.grouping_model.specs.Datum as datum
use Rattle.grouping_model.specs.Datum.{Datum, Kind, Bigint_kind, Boolean_kind, Text_kind}
use Rattle.grouping_model.specs.Aggregates.{Function}
use Rattle.grouping_model.specs.Condition.{Is_null}
use Rattle.grouping_model.specs.Order.{Arrangement}
use Rattle.grouping_model.specs.declared.limits.TheConstants.{MAX_ITEMS, MAX_KEYS, MAX_CALLS, MAX_QUERY_LEN, DEEPEST_CONDITION}
use Rattle.agg_protocol.specs.Signatures.{Argument, Values_of, signature}
use Rattle.packed_rows.specs.Columns as packed
use Rattle.packed_rows.specs.Columns.{place_of}
use Rattle.query_checks.specs.declared.error.QueryError.{QueryError}
use Rattle.query_checks.specs.declared.error.QueryError.TheVariants.{NoSuchColumn, NotGrouped, TypeMismatch, AggregateHere, TooMany}
use Rattle.query_checks.specs.declared.error.QueryError.TheVariants.{TooDeep}
use Rattle.query_checks.specs.declared.order.OrderTerm.{OrderTerm}
use Rattle.query_checks.specs.Forms.{Unary_operator, Testing, Binary_operator, Comparing, Form, Column, Call, Call_where, Literal, Unary}
use Rattle.query_checks.specs.Forms.{Binary, Written, map_form}
pub use Rattle.query_checks.specs.Reads.{is_plain, is_grouped_by, columns_pass, filters_pass}
use Rattle.query_checks.specs.Sameness.{first_of_each}
use Rattle.query_checks.specs.Order.{Asked, names_items}
use Rattle.query_checks.specs.Arrangement.{checked_arrangement}
use Rattle.query_checks.specs.Spelling.{spelling, own_name, kept_alias}
use Rattle.query_checks.specs.Calls.{distinct_calls}

-- a query over the columns of a schema, by their places, and how the rows of its answer are arranged (own)
pub record Checked : Type 0 where
  pub columns : List packed.Column
  pub written : Written ℕ
  pub arrangement : Arrangement OrderTerm

-- whether all conditions of a query pass, WHERE and HAVING by a test of conditions, the items by one of their own
abbrev pub all_of : {C : Type 0} → (Form C → Bool) → (Form C → Bool) → Written C → Bool
all_of item_passes passes q = list_all (λ item. item_passes item.0) q.items
    && (option_map_or passes q.condition true && option_map_or passes q.having true)

-- more items, keys, aggregate calls or bytes than a query may have
abbrev pub has_too_many : Asked → Bool
has_too_many q =
    nat_lt MAX_ITEMS (length q.written.items) || (nat_lt MAX_KEYS (length (first_of_each bytes_eq q.written.keys))
    || (nat_lt MAX_CALLS (length (distinct_calls bytes_eq q.written)) || nat_lt MAX_QUERY_LEN (length (spelling q))))

-- how deep a condition is: an operand with nothing in it is 1, and a FILTER has a depth of its own
abbrev pub depth : {C : Type 0} → Form C → ℕ
depth (Unary operator x) = depth x + 1
depth (Binary operator x y) = max (depth x) (depth y) + 1
depth other = 1

-- a condition is not too deep, and its FILTERs are not either
abbrev pub is_shallow : {C : Type 0} → Form C → Bool
is_shallow c = nat_le (depth c) DEEPEST_CONDITION

abbrev pub are_shallow : {C : Type 0} → Form C → Bool
are_shallow c = is_shallow c && filters_pass is_shallow c

-- whether a name is a column's
abbrev pub is_column : List packed.Column → List ℕ → Bool
is_column columns name = is_some (place_of name columns)

-- whether all names of a query are columns'
abbrev pub has_columns : List packed.Column → Written (List ℕ) → Bool
has_columns columns q = all_of (columns_pass (is_column columns)) (columns_pass (is_column columns)) q
    && list_all (is_column columns) q.keys

-- an aggregate stands neither in WHERE nor in a FILTER
abbrev pub are_plain : Written ℕ → Bool
are_plain q = all_of (filters_pass is_plain) (filters_pass is_plain) q && option_map_or is_plain q.condition true

-- the kind of a value; null has none, being of every kind (PostgreSQL 17, 4.1.2 and 10.2)
abbrev pub kind_of_datum : Datum → Option Kind
kind_of_datum datum.Null = None
kind_of_datum (datum.Bigint z) = Some Bigint_kind
kind_of_datum (datum.Boolean b) = Some Boolean_kind
kind_of_datum (datum.Text text) = Some Text_kind

-- the kind of an operand (PostgreSQL 17, 4.2 Value Expressions)
abbrev pub kind_of_form : List Kind → Form ℕ → Option Kind
kind_of_form kinds (Column place) = slice_get kinds place
kind_of_form kinds (Call function column) = Some (signature function).result
kind_of_form kinds (Call_where function column filter) = Some (signature function).result
kind_of_form kinds (Literal value) = kind_of_datum value
kind_of_form kinds other = Some Boolean_kind

abbrev pub kind_number : Kind → ℕ
kind_number Bigint_kind = 0
kind_number Boolean_kind = 1
kind_number Text_kind = 2

-- whether two kinds are the same, null being of every kind
abbrev pub kinds_agree : Option Kind → Option Kind → Bool
kinds_agree None other = true
kinds_agree other None = true
kinds_agree (Some a) (Some b) = kind_number a == kind_number b

abbrev pub is_boolean : Option Kind → Bool
is_boolean kind = kinds_agree kind (Some Boolean_kind)

-- the kind that an argument must have, or none if any kind will do (PostgreSQL 17, 9.21)
abbrev pub kind_asked : Argument → Option Kind
kind_asked (Values_of kind) = Some kind
kind_asked other = None

abbrev pub takes_column : List Kind → Function → Option ℕ → Bool
takes_column kinds function None = true
takes_column kinds function (Some place) = kinds_agree (slice_get kinds place) (kind_asked (signature function).argument)

-- whether an operator takes an operand of a kind: IS NULL of any, NOT and the other tests a boolean
-- (PostgreSQL 17, 9.1 and Table 9.2)
abbrev pub takes_one : Unary_operator → Option Kind → Bool
takes_one (Testing Is_null negated) kind = true
takes_one operator kind = is_boolean kind

-- and two operands: AND and OR booleans, a comparison two of one kind (PostgreSQL 17, 9.1 and Table 9.1)
abbrev pub takes_two : Binary_operator → Option Kind → Option Kind → Bool
takes_two (Comparing comparison) left right = kinds_agree left right
takes_two operator left right = is_boolean left && is_boolean right

-- whether all operands and arguments have a kind that fits. A FILTER is a whole condition
abbrev pub operands_fit : List Kind → Form ℕ → Bool
operands_fit kinds (Call function column) = takes_column kinds function column
operands_fit kinds (Call_where function column filter) = takes_column kinds function column
    && (operands_fit kinds filter && is_boolean (kind_of_form kinds filter))
operands_fit kinds (Unary operator x) = operands_fit kinds x && takes_one operator (kind_of_form kinds x)
operands_fit kinds (Binary operator x y) = (operands_fit kinds x && operands_fit kinds y)
    && takes_two operator (kind_of_form kinds x) (kind_of_form kinds y)
operands_fit kinds other = true

-- a whole condition: it is boolean too
abbrev pub condition_fits : List Kind → Form ℕ → Bool
condition_fits kinds c = operands_fit kinds c && is_boolean (kind_of_form kinds c)

abbrev pub kinds_fit : List Kind → Written ℕ → Bool
kinds_fit kinds q = all_of (operands_fit kinds) (condition_fits kinds) q

-- the columns outside calls are keys, in the items and in HAVING
abbrev pub is_grouped : Written ℕ → Bool
is_grouped q = list_all (λ item. is_grouped_by q.keys item.0) q.items && option_map_or (is_grouped_by q.keys) q.having true

-- the place of a name, which is a column's
abbrev pub place : List packed.Column → List ℕ → ℕ
place columns name = unwrap_or (place_of name columns) 0

-- the query over places: each key once, and no alias that is the item's own name
abbrev pub placed : List packed.Column → Written (List ℕ) → Written ℕ
placed columns q =
    record {
      items = map (λ item. (map_form (place columns) item.0, kept_alias (own_name item.0) item.1)) q.items;
      condition = option_map (map_form (place columns)) q.condition;
      keys = first_of_each ◌==◌ (map (place columns) q.keys);
      having = option_map (map_form (place columns)) q.having;
    }

-- the checks over places
unfoldable pub checked_places : List packed.Column → Written ℕ → Result (Written ℕ) QueryError
checked_places columns q =
    if not (are_plain q) then Err AggregateHere else
    if not (kinds_fit (packed.kinds columns) q) then Err TypeMismatch else
    if not (is_grouped q) then Err NotGrouped else
    Ok q

-- and the check of the clauses after HAVING, which comes last
abbrev pub with_arrangement : List packed.Column → Result (Written ℕ) QueryError → Result (Arrangement OrderTerm) QueryError → Result Checked QueryError
with_arrangement columns (Err error) arrangement = Err error
with_arrangement columns (Ok written) (Err error) = Err error
with_arrangement columns (Ok written) (Ok arrangement) = Ok (record { columns = columns; written = written; arrangement = arrangement })

-- the query that was checked, or the first of these that is found anywhere in it
unfoldable pub checked : List packed.Column → Asked → Result Checked QueryError
checked columns q =
    if has_too_many q then Err TooMany else
    if not (all_of (filters_pass is_shallow) are_shallow q.written) then Err TooDeep else
    if not (has_columns columns q.written && names_items q) then Err NoSuchColumn else
    with_arrangement columns (checked_places columns (placed columns q.written)) (checked_arrangement q)

-- a query that passes the first three checks, before the others
pub record PassesFirst (columns : List packed.Column) (q : Asked) : Type 0 where
  pub few : has_too_many q ≡ false
  pub shallow : all_of (filters_pass is_shallow) are_shallow q.written ≡ true
  pub columns_there : has_columns columns q.written ≡ true
  pub items_there : names_items q ≡ true
