-- Summary files: the bytes of a query and of what is held of some origins. There is one spelling of each in each version, and the layout is
-- our own. Numbers are unsigned, their highest byte first.
use Rattle.std.specs.Prelude.{ℕ, List, ◌++◌, length, flat_map}
use Rattle.std.specs.Int.{bytes_high_first}
use Rattle.packed_rows.specs.Columns.{printed}
use Rattle.having_filter.specs.Kept.{by_names}
use Rattle.query_checks.specs.Checks.{Checked}
use Rattle.query_checks.specs.Spelling.{spelling}
use Rattle.group_runs.specs.Runs.{Entry}
use Rattle.origin_prefix.specs.Parts.{Part}
use Rattle.origin_prefix.specs.Held.{Parts}
use Rattle.summary_codec.specs.Versions.{opening}
use Rattle.summary_codec.specs.declared.version.Version.{Version}
use Rattle.summary_codec.specs.declared.version.Version.TheVariants.{Second}

-- bytes behind their length, which has two bytes
abbrev pub sized_bytes : List ℕ → List ℕ
sized_bytes bytes = bytes_high_first 2 (length bytes) ++ bytes

-- a group: its packed key, and the states of its aggregates, whose width the query tells
abbrev pub group_bytes : Entry → List ℕ
group_bytes entry = sized_bytes entry.0 ++ entry.1

-- an early batch: its number, how many rows it has, and these, packed
abbrev pub batch_bytes : ℕ × List (List ℕ) → List ℕ
batch_bytes batch = bytes_high_first 4 batch.0 ++ bytes_high_first 4 (length batch.1) ++ flat_map sized_bytes batch.1

-- what is held of an origin: the origin, its prefix, how many groups there are, these, how many early batches, and these
unfoldable pub part_bytes : ℕ × Part → List ℕ
part_bytes held =
    bytes_high_first 2 held.0
    ++ bytes_high_first 4 held.1.prefix
    ++ bytes_high_first 8 (length held.1.run) ++ flat_map group_bytes held.1.run
    ++ bytes_high_first 4 (length held.1.early) ++ flat_map batch_bytes held.1.early

-- what stands behind a file's opening: the canonical texts of the schema and of the query, how many origins there are, and what is held
-- of each
abbrev pub body_bytes : Checked → Parts → List ℕ
body_bytes query parts =
    sized_bytes (printed query.columns)
    ++ sized_bytes (spelling (by_names query))
    ++ bytes_high_first 2 (length parts) ++ flat_map part_bytes parts

-- a file of a version, which its opening alone tells
abbrev pub file_in : Version → Checked → Parts → List ℕ
file_in version query parts = opening version ++ body_bytes query parts

-- the file that is written
abbrev pub file_bytes : Checked → Parts → List ℕ
file_bytes = file_in Second
