-- Tables that take their rows one after another. All of this is our own.
use Rattle.std.specs.Prelude.{◌≡◌, ℕ, List, [], ◌++◌, length, Some, true, false}
use Rattle.std.specs.Io.KnownBytes.{Keeps}
use Rattle.grouping_model.specs.Aggregates.{Outcome}
use Rattle.packed_rows.specs.View.{bytes_of}
use Rattle.table_print.specs.Table.{table_text}
use Rattle.table_print.specs.Tsv.{tsv_text}
use Rattle.table_print.specs.Json.{json_names, json_text}
use Rattle.script_io.specs.LineWriter.{IsBetween, written}
use Rattle.table_print.specs.declared.csv_table.CsvTable.{CsvTable}
use Rattle.table_print.specs.declared.tsv_table.TsvTable.{TsvTable}
use Rattle.table_print.specs.declared.json_table.JsonTable.{JsonTable}

-- a table in CSV has these headers and rows so far, stands between two lines, and has not failed
pub record IsCsvTable (headers : List (List ℕ)) (rows : List (List Outcome)) (table : CsvTable) : Type 0 where
  pub whole : table.failed ≡ false
  pub between : IsBetween table.writer
  pub text : Keeps (Some (table_text headers rows)) (written table.writer)
  pub counted : table.rows ≡ length rows

-- a table in TSV has these
pub record IsTsvTable (headers : List (List ℕ)) (rows : List (List Outcome)) (table : TsvTable) : Type 0 where
  pub text : table.text.items ≡ tsv_text headers rows
  pub counted : table.rows ≡ length rows

-- a table in JSON has these
pub record IsJsonTable (headers : List (List ℕ)) (rows : List (List Outcome)) (table : JsonTable) : Type 0 where
  pub names : bytes_of table.names.items ≡ json_names headers
  pub text : table.text.items ≡ json_text headers rows
  pub counted : table.rows ≡ length rows

-- a table took more rows: it has them behind those that it had
abbrev pub Takes : {T : Type 0} → (List (List ℕ) → List (List Outcome) → T → Type 0) → T → T → List (List Outcome) → Type 0
Takes IsTable old new more =
    (headers : List (List ℕ)) (rows : List (List Outcome)) → IsTable headers rows old → IsTable headers (rows ++ more) new

-- a table stays as it was: it has the headers and rows that it had
abbrev pub Stays : {T : Type 0} → (List (List ℕ) → List (List Outcome) → T → Type 0) → T → T → Type 0
Stays IsTable old new = (headers : List (List ℕ)) (rows : List (List Outcome)) → IsTable headers rows old → IsTable headers rows new

-- a table in CSV failed within a line, and so it takes no row and gives no text from then on
abbrev pub HasFailed : CsvTable → Type 0
HasFailed table = table.failed ≡ true

-- a table in CSV took more rows. One that has failed takes none, and stays so
pub record CsvTakes (old new : CsvTable) (more : List (List Outcome)) : Type 0 where
  pub rows : Takes IsCsvTable old new more
  pub failed : HasFailed old → (more ≡ []) × HasFailed new
