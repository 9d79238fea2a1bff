-- What a checked query means.
use Rattle.std.specs.Prelude.{ℕ, ◌==◌, Bool, true, false, List, map, Some, None, option_map, unwrap_or, position}
use Rattle.grouping_model.specs.Datum.{Null}
use Rattle.grouping_model.specs.Aggregates.{Count_rows}
use Rattle.grouping_model.specs.Condition as model
use Rattle.grouping_model.specs.Condition.{Condition}
use Rattle.grouping_model.specs.Query.{Query, Aggregate, Source}
use Rattle.grouping_model.specs.Query as query
use Rattle.grouping_model.specs.Order.{Term, map_arrangement}
use Rattle.packed_rows.specs.Columns.{kinds}
use Rattle.query_checks.specs.Forms as form
use Rattle.query_checks.specs.Forms.{Unary_operator, Negation, Testing, Binary_operator, Conjunction, Disjunction, Comparing, Form, Call}
use Rattle.query_checks.specs.Forms.{Call_where, Literal, Unary, Binary}
use Rattle.query_checks.specs.Sameness.{form_eq}
use Rattle.query_checks.specs.Calls.{distinct_calls}
use Rattle.query_checks.specs.Checks.{Checked}
use Rattle.query_checks.specs.declared.order.OrderTerm.{OrderTerm}

-- what operators mean (PostgreSQL 17, 9.1 and 9.2)
abbrev pub unary_of : {Leaf : Type 0} → Unary_operator → Condition Leaf → Condition Leaf
unary_of Negation c = model.Not c
unary_of (Testing test false) c = model.Is test c
unary_of (Testing test true) c = model.Is_not test c

abbrev pub binary_of : {Leaf : Type 0} → Binary_operator → Condition Leaf → Condition Leaf → Condition Leaf
binary_of Conjunction c d = model.And c d
binary_of Disjunction c d = model.Or c d
binary_of (Comparing comparison) c d = model.Compare comparison c d

-- a condition, its columns and calls being read as given (PostgreSQL 17, 4.2 Value Expressions)
abbrev pub condition_by : {C Leaf : Type 0} → (Form C → Condition Leaf) → Form C → Condition Leaf
condition_by leaf (Literal value) = model.Literal value
condition_by leaf (Unary operator x) = unary_of operator (condition_by leaf x)
condition_by leaf (Binary operator x y) = binary_of operator (condition_by leaf x) (condition_by leaf y)
condition_by leaf read = leaf read

-- what WHERE and FILTER read: columns, and no aggregates, which are null there (PostgreSQL 17, 4.2.7)
abbrev pub column_leaf : Form ℕ → Condition ℕ
column_leaf (form.Column place) = model.At place
column_leaf other = model.Literal Null

abbrev pub row_condition : Form ℕ → Condition ℕ
row_condition c = condition_by column_leaf c

-- the aggregate that a call names (PostgreSQL 17, 4.2.7 Aggregate Expressions)
abbrev pub aggregate_of : Form ℕ → Aggregate
aggregate_of (Call function column) = record { function = function; column = column; filter = None }
aggregate_of (Call_where function column filter) = record { function = function; column = column; filter = Some (row_condition filter) }
aggregate_of other = record { function = Count_rows; column = None; filter = None }

-- the place of the first member that is the same, which is there in a checked query
abbrev pub place_in : {A : Type 0} → (A → A → Bool) → List A → A → ℕ
place_in same members x = unwrap_or (position (same x) members) 0

-- what HAVING and the items read: a column among the keys, and a call among the distinct calls
-- (PostgreSQL 17, 7.2.3 The GROUP BY and HAVING Clauses)
abbrev pub source_of_form : List ℕ → List (Form ℕ) → Form ℕ → Source
source_of_form keys calls (form.Column place) = query.Key (place_in ◌==◌ keys place)
source_of_form keys calls call = query.Call (place_in (form_eq ◌==◌) calls call)

abbrev pub group_condition : List ℕ → List (Form ℕ) → Form ℕ → Condition Source
group_condition keys calls c = condition_by (λ leaf. model.At (source_of_form keys calls leaf)) c

-- a term of ORDER BY (PostgreSQL 17, 7.5 Sorting Rows)
abbrev pub order_term : OrderTerm → Term
order_term term = record { item = term.item; descending = term.descending; nulls_first = term.nulls_first }

-- what a checked query means (PostgreSQL 17, SELECT)
abbrev pub meaning : Checked → Query
meaning q =
    let calls = distinct_calls ◌==◌ q.written in
    record {
      kinds = kinds q.columns;
      items = map (λ item. source_of_form q.written.keys calls item.0) q.written.items;
      condition = option_map row_condition q.written.condition;
      keys = q.written.keys;
      aggregates = map aggregate_of calls;
      having = option_map (group_condition q.written.keys calls) q.written.having;
      arrangement = map_arrangement order_term q.arrangement;
    }
