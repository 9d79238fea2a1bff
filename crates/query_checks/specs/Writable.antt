-- What a query's text can say, beyond the shape of its parts.
use Rattle.std.specs.Prelude.{ℕ, ◌≢◌, List, [], Option, Some, None, Contains, FitsSigned}
use Rattle.std.specs.Int.{w64}
use Rattle.std.specs.List.{AllByRecursion}
use Rattle.std.specs.Option.{ForSome}
use Rattle.grouping_model.specs.Datum as datum
use Rattle.grouping_model.specs.Datum.{Datum}
use Rattle.grouping_model.specs.Aggregates.{Function}
use Rattle.agg_protocol.specs.Signatures.{Argument, Each_row, signature}
use Rattle.packed_rows.specs.Columns.{IsColumnName}
use Rattle.query_checks.specs.Forms.{Form, Column, Call, Call_where, Literal, Unary, Binary, Written}
use Rattle.query_checks.specs.Order.{Asked}
use Rattle.query_checks.specs.Arrangement.{CanBeArranged}

-- what stands in a call's parentheses: no column where the function takes rows, and else a column, which passes a test
-- (PostgreSQL 17, 4.2.7 Aggregate Expressions)
abbrev pub IsColumnFor : {C : Type 0} → (C → Type 0) → Argument → Option C → Type 0
IsColumnFor IsColumn Each_row None = Unit {0}
IsColumnFor IsColumn Each_row (Some c) = ⊥
IsColumnFor IsColumn argument None = ⊥
IsColumnFor IsColumn argument (Some c) = IsColumn c

abbrev pub IsWritableArgument : {C : Type 0} → (C → Type 0) → Function → Option C → Type 0
IsWritableArgument IsColumn function column = IsColumnFor IsColumn (signature function).argument column

-- a literal: a number has 64 bits in two's complement, and a text no character 0 (PostgreSQL 17, 8.1.1 and 8.3)
abbrev pub IsLiteral : Datum → Type 0
IsLiteral (datum.Bigint z) = FitsSigned w64 z
IsLiteral (datum.Text text) = ¬ (Contains text 0)
IsLiteral value = Unit {0}

-- a condition that a text can say, its columns being such as pass a test
abbrev pub IsForm : {C : Type 0} → (C → Type 0) → Form C → Type 0
IsForm IsColumn (Column c) = IsColumn c
IsForm IsColumn (Call function column) = IsWritableArgument IsColumn function column
IsForm IsColumn (Call_where function column filter) = IsWritableArgument IsColumn function column × IsForm IsColumn filter
IsForm IsColumn (Literal value) = IsLiteral value
IsForm IsColumn (Unary operator x) = IsForm IsColumn x
IsForm IsColumn (Binary operator x y) = IsForm IsColumn x × IsForm IsColumn y

-- an item is a column or a call (own)
abbrev pub IsColumnOrCall : {C : Type 0} → Form C → Type 0
IsColumnOrCall (Column c) = Unit {0}
IsColumnOrCall (Call function column) = Unit {0}
IsColumnOrCall (Call_where function column filter) = Unit {0}
IsColumnOrCall other = ⊥

-- an item and its alias, if it has one
pub record IsItem (item : Form (List ℕ) × Option (List ℕ)) : Type 0 where
  pub value : IsColumnOrCall item.0
  pub form : IsForm IsColumnName item.0
  pub alias : ForSome item.1 IsColumnName

-- a query up to its HAVING that a text can have, once it is read: some items, and each column and alias has a name that a column can have
-- (PostgreSQL 17, SELECT, 4.1.1 Identifiers and Key Words)
pub record IsWritable (q : Written (List ℕ)) : Type 0 where
  pub some : q.items ≢ []
  pub items : AllByRecursion IsItem q.items
  pub condition : ForSome q.condition (IsForm IsColumnName)
  pub keys : AllByRecursion IsColumnName q.keys
  pub having : ForSome q.having (IsForm IsColumnName)

-- and the same with the clauses after its HAVING
pub record CanBeAsked (q : Asked) : Type 0 where
  pub written : IsWritable q.written
  pub arrangement : CanBeArranged q.arrangement
