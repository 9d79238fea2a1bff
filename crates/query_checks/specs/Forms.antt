-- Conditions, calls and queries as they are written, over names or places of columns, and what the code's types stand for.
use Rattle.std.specs.Prelude.{ℕ, Bool, true, false, List, map, string_bytes, option_map, Option, Some, None}
use Rattle.std.specs.Borrow.{Bor}
use Rattle.std.specs.declared.alloc.Global.{Global}
use Rattle.std.specs.declared.string.String.{String}
use Rattle.grouping_model.specs.Datum as datum
use Rattle.grouping_model.specs.Datum.{Datum}
use Rattle.grouping_model.specs.Aggregates.{Function}
use Rattle.grouping_model.specs.Condition as model
use Rattle.agg_protocol.specs.Kinds.{function_of}
use Rattle.query_checks.specs.Operators.{comparison_of, test_of}
use Rattle.query_checks.specs.declared.condition.Cond.{Cond}
use Rattle.query_checks.specs.declared.condition.Cond as cond
use Rattle.query_checks.specs.declared.condition.AggCall.{AggCall}
use Rattle.query_checks.specs.declared.condition.Item.{Item}
use Rattle.query_checks.specs.declared.condition.Item.TheVariants as item
use Rattle.query_checks.specs.declared.condition.RawQuery.{RawQuery}

-- an operator with one operand: NOT, or an IS test, which is an IS NOT test where it is negated
-- (PostgreSQL 17, 9.1 and Table 9.2)
pub data Unary_operator : Type 0 where
  Negation : Unary_operator
  Testing : model.Test → Bool → Unary_operator

-- an operator with two operands: AND, OR, or a comparison (PostgreSQL 17, 9.1 and Table 9.1)
pub data Binary_operator : Type 0 where
  Conjunction Disjunction : Binary_operator
  Comparing : model.Comparison → Binary_operator

-- a condition or an operand of one, over columns. A call has no column where it counts rows, and a FILTER or none
-- (PostgreSQL 17, 4.2 Value Expressions; which forms there are is our own)
pub data Form (C : Type 0) : Type 0 where
  Column : C → Form C
  Call : Function → Option C → Form C
  Call_where : Function → Option C → Form C → Form C
  Literal : Datum → Form C
  Unary : Unary_operator → Form C → Form C
  Binary : Binary_operator → Form C → Form C → Form C

-- the same by the words of SQL
abbrev pub Not : {C : Type 0} → Form C → Form C
Not c = Unary Negation c

abbrev pub And : {C : Type 0} → Form C → Form C → Form C
And c d = Binary Conjunction c d

abbrev pub Or : {C : Type 0} → Form C → Form C → Form C
Or c d = Binary Disjunction c d

abbrev pub Compare : {C : Type 0} → model.Comparison → Form C → Form C → Form C
Compare comparison c d = Binary (Comparing comparison) c d

abbrev pub Is : {C : Type 0} → model.Test → Form C → Form C
Is test c = Unary (Testing test false) c

abbrev pub Is_not : {C : Type 0} → model.Test → Form C → Form C
Is_not test c = Unary (Testing test true) c

-- a query: its items with their aliases, WHERE, the columns of GROUP BY, and HAVING (PostgreSQL 17, SELECT)
pub record Written (C : Type 0) : Type 0 where
  pub items : List (Form C × Option (List ℕ))
  pub condition : Option (Form C)
  pub keys : List C
  pub having : Option (Form C)

-- a call that becomes a column, or stays a call
abbrev pub exchanged : {C : Type 0} → Option C → Form C → Form C
exchanged None call = call
exchanged (Some column) call = Column column

-- the same condition over other columns. A call becomes a column where it is given one
abbrev pub map_reads : {C D : Type 0} → (C → D) → (Form C → Option D) → Form C → Form D
map_reads column call (Column c) = Column (column c)
map_reads column call (Call f c) = exchanged (call (Call f c)) (Call f (option_map column c))
map_reads column call (Call_where f c x) = exchanged (call (Call_where f c x))
    (Call_where f (option_map column c) (map_reads column call x))
map_reads column call (Literal value) = Literal value
map_reads column call (Unary operator x) = Unary operator (map_reads column call x)
map_reads column call (Binary operator x y) = Binary operator (map_reads column call x) (map_reads column call y)

-- a call over other columns, which stays a call; the calls in its FILTER become what they are given
abbrev pub map_call : {C D : Type 0} → (C → D) → (Form C → Option D) → Form C → Form D
map_call column call (Call f c) = Call f (option_map column c)
map_call column call (Call_where f c x) = Call_where f (option_map column c) (map_reads column call x)
map_call column call other = map_reads column call other

-- the same condition over other columns, its calls being calls again
abbrev pub map_form : {C D : Type 0} → (C → D) → Form C → Form D
map_form column c = map_reads column (λ call. None) c

-- the condition that the code's value stands for, without where its parts lie in memory
abbrev mutual
  pub form_of : {C : Type 0} → Cond C → Form C
  form_of (cond.Column c) = Column c
  form_of (cond.Call' place kind column filter) = with_filter (function_of kind) column filter
  form_of (cond.Bigint z) = Literal (datum.Bigint z)
  form_of (cond.Text text) = Literal (datum.Text (string_bytes text))
  form_of (cond.Boolean b) = Literal (datum.Boolean b)
  form_of cond.Null = Literal datum.Null
  form_of (cond.Not' p c) = Unary Negation (form_of c)
  form_of (cond.Or' p c q d) = Binary Disjunction (form_of c) (form_of d)
  form_of (cond.And' p c q d) = Binary Conjunction (form_of c) (form_of d)
  form_of (cond.Compare' comparison p c q d) = Binary (Comparing (comparison_of comparison)) (form_of c) (form_of d)
  form_of (cond.Is' test negated p c) = Unary (Testing (test_of test) negated) (form_of c)

  pub with_filter : {C : Type 0} → Function → Option C → cond.Held-AggCall-filter C → Form C
  with_filter function column cond.None' = Call function column
  with_filter function column (cond.Some' filter) = Call_where function column (form_of filter)

-- a call, calls, an item, and a query that isn't checked
abbrev pub call_form : {C : Type 0} → AggCall C → Form C
call_form {C} call = with_filter (function_of call.kind) call.column (cond.back-AggCall-filter C call.filter)

abbrev pub call_forms : {C : Type 0} → List (Bor (AggCall C)) → List (Form C)
call_forms calls = map (λ call. call_form call.now) calls

abbrev pub item_form : {C : Type 0} → Item C → Form C
item_form (item.Column c) = Column c
item_form (item.Call call) = call_form call

abbrev pub names_of : Form (String Global) → Form (List ℕ)
names_of c = map_form string_bytes c

abbrev pub item_of : Item (String Global) × Option (String Global) → Form (List ℕ) × Option (List ℕ)
item_of item = (names_of (item_form item.0), option_map string_bytes item.1)

abbrev pub items_of : List (Item (String Global) × Option (String Global)) → List (Form (List ℕ) × Option (List ℕ))
items_of items = map item_of items

abbrev pub places_of : {C : Type 0} → List (Item C × Option (String Global)) → List (Form C × Option (List ℕ))
places_of items = map (λ item. (item_form item.0, option_map string_bytes item.1)) items

abbrev pub written_of : RawQuery → Written (List ℕ)
written_of raw =
    record {
      items = items_of raw.items.items;
      condition = option_map (λ c. names_of (form_of c)) raw.condition;
      keys = map string_bytes raw.keys.items;
      having = option_map (λ c. names_of (form_of c)) raw.having;
    }
