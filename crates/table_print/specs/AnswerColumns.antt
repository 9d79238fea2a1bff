-- The columns of an answer as a text: the name and the type of each, as a schema is printed.
use Rattle.std.specs.Prelude.{ℕ, List, [], ◌++◌, map, codes, Option, Some, None}
use Rattle.std.specs.List.{join_by, zip}
use Rattle.grouping_model.specs.Aggregates.{Function, Sum}
use Rattle.grouping_model.specs.Datum.{Kind}
use Rattle.agg_protocol.specs.Signatures.{signature}
use Rattle.packed_rows.specs.Columns.{kind_text, kinds}
use Rattle.query_checks.specs.Checks.{kind_of_form, Checked}
use Rattle.query_checks.specs.Forms.{Form, Call, Call_where}
use Rattle.having_filter.specs.Kept.{headers}

-- the type of a function's result: a sum of bigints is a numeric (PostgreSQL 17, 9.21 Aggregate Functions)
abbrev pub result_type : Function → List ℕ
result_type Sum = codes "numeric"
result_type function = kind_text (signature function).result

-- the name of a kind, if there is one (own)
abbrev pub type_of_kind : Option Kind → List ℕ
type_of_kind None = []
type_of_kind (Some kind) = kind_text kind

-- the type of an item: that of its column, or of its function's result (PostgreSQL 17, 7.3.1 Select-List Items)
abbrev pub item_type : List Kind → Form ℕ → List ℕ
item_type kinds (Call function column) = result_type function
item_type kinds (Call_where function column filter) = result_type function
item_type kinds form = type_of_kind (kind_of_form kinds form)

abbrev pub item_types : Checked → List (List ℕ)
item_types q = map (λ item. item_type (kinds q.columns) item.0) q.written.items

-- a column: its name and its type
abbrev pub answer_column : List ℕ × List ℕ → List ℕ
answer_column column = column.0 ++ codes " " ++ column.1

-- the columns of an answer, separated by commas
abbrev pub answer_columns : Checked → List ℕ
answer_columns q = join_by answer_column (codes ", ") (zip (headers q) (item_types q))
