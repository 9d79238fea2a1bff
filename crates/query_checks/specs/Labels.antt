-- The names of items (PostgreSQL 17, 7.3.2 Column Labels).
use Rattle.std.specs.Prelude.{ℕ, if◌then◌else◌, List, [], Option, Some, None, unwrap_or}
use Rattle.std.specs.Str.{bytes_eq}
use Rattle.grouping_model.specs.Aggregates.{Function}
use Rattle.agg_protocol.specs.Signatures.{signature}
use Rattle.query_checks.specs.Forms.{Form, Column, Call, Call_where}

-- the name of a function, which its result has too (PostgreSQL 17, 9.21 and 7.3.2 Column Labels)
abbrev pub function_name : Function → List ℕ
function_name function = (signature function).name

-- an item's own name: that of the column or of the function (PostgreSQL 17, 7.3.2)
abbrev pub own_name : Form (List ℕ) → List ℕ
own_name (Column name) = name
own_name (Call function column) = function_name function
own_name (Call_where function column filter) = function_name function
own_name other = []

-- an alias, which is none where it is the item's own name (own)
abbrev pub kept_alias : List ℕ → Option (List ℕ) → Option (List ℕ)
kept_alias own None = None
kept_alias own (Some alias) = if bytes_eq alias own then None else Some alias

-- the name of an item's column in the answer: its alias, or else its own name (PostgreSQL 17, 7.3.2)
abbrev pub label_of : Form (List ℕ) × Option (List ℕ) → List ℕ
label_of item = unwrap_or (kept_alias (own_name item.0) item.1) (own_name item.0)
