-- What a condition reads: its columns and its calls.
use Rattle.std.specs.Prelude.{ℕ, Bool, true, false, ◌&&◌, ◌==◌, not, List, [], ◌∷◌, ◌++◌, filter, Option, Some, None}
use Rattle.std.specs.List.{list_all, list_any}
use Rattle.std.specs.Option.{option_map_or}
use Rattle.query_checks.specs.Forms.{Form, Column, Call, Call_where, Literal, Unary, Binary}

-- the columns and calls of a condition, from the left. What the FILTER of a call reads is not among them
abbrev pub reads : {C : Type 0} → Form C → List (Form C)
reads (Literal value) = []
reads (Unary operator x) = reads x
reads (Binary operator x y) = reads x ++ reads y
reads leaf = leaf ∷ []

-- the calls among them
abbrev pub is_call : {C : Type 0} → Form C → Bool
is_call (Call function column) = true
is_call (Call_where function column filter) = true
is_call other = false

abbrev pub calls_in : {C : Type 0} → Form C → List (Form C)
calls_in c = filter is_call (reads c)

-- no aggregate stands in a condition
abbrev pub is_plain : {C : Type 0} → Form C → Bool
is_plain c = list_all (λ leaf. not (is_call leaf)) (reads c)

-- the columns outside calls are keys (PostgreSQL 17, 7.2.3)
abbrev pub is_key : List ℕ → Form ℕ → Bool
is_key keys (Column place) = list_any (λ key. key == place) keys
is_key keys call = true

abbrev pub is_grouped_by : List ℕ → Form ℕ → Bool
is_grouped_by keys c = list_all (is_key keys) (reads c)

-- whether each column and call of a condition passes a test, those that its FILTERs read too
abbrev pub everywhere : {C : Type 0} → (Form C → Bool) → Form C → Bool
everywhere passes (Literal value) = true
everywhere passes (Unary operator x) = everywhere passes x
everywhere passes (Binary operator x y) = everywhere passes x && everywhere passes y
everywhere passes (Call_where function column filter) = passes (Call_where function column filter) && everywhere passes filter
everywhere passes leaf = passes leaf

-- the column that is read, or that a call takes
abbrev pub column_read : {C : Type 0} → Form C → Option C
column_read (Column c) = Some c
column_read (Call function column) = column
column_read (Call_where function column filter) = column
column_read other = None

-- whether each column of a condition passes a test, those in FILTERs too
abbrev pub columns_pass : {C : Type 0} → (C → Bool) → Form C → Bool
columns_pass passes c = everywhere (λ leaf. option_map_or passes (column_read leaf) true) c

-- the FILTER of a call
abbrev pub filter_of : {C : Type 0} → Form C → Option (Form C)
filter_of (Call_where function column filter) = Some filter
filter_of other = None

-- whether each FILTER in a condition passes a test, those in FILTERs too
abbrev pub filters_pass : {C : Type 0} → (Form C → Bool) → Form C → Bool
filters_pass passes c = everywhere (λ leaf. option_map_or passes (filter_of leaf) true) c
