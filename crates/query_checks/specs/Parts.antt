-- The parts of a query over places. All of this is our own.
use Rattle.std.specs.Prelude.{ℕ, List, option_map}
use Rattle.packed_rows.specs.Columns.{Column}
use Rattle.query_checks.specs.declared.parts.Parts.{Parts}
use Rattle.query_checks.specs.Forms.{Written, form_of, places_of}
use Rattle.query_checks.specs.Arrangement.{arrangement_held}
use Rattle.query_checks.specs.Checks.{Checked}

-- the query that they say, and the same over the columns of a schema, with how its answer is arranged
abbrev pub written_of_parts : Parts → Written ℕ
written_of_parts parts =
    record {
      items = places_of parts.items.items;
      condition = option_map form_of parts.condition;
      keys = parts.keys.items;
      having = option_map form_of parts.having;
    }

abbrev pub checked_of : List Column → Parts → Checked
checked_of columns parts = record { columns = columns; written = written_of_parts parts; arrangement = arrangement_held parts.arrangement }
