-- What a writer of lines in memory has written. All of this is our own.
use Rattle.std.specs.Prelude.{ℕ, ◌≡◌, ◌==◌, ◌||◌, ◌&&◌, not, List, length}
use Rattle.std.specs.declared.alloc.Global.{Global}
use Rattle.std.specs.declared.vec.Vec.{Vec}
use Rattle.std.specs.Io.KnownBytes.{Appends}
use Rattle.csv.specs.Writing.{default_writer, fields_written, has_written, is_blank, row_body, writer_setup}
use Rattle.csv.specs.declared.writer.Writer.{Writer}
use Rattle.script_io.specs.LineWriter.{Writes, written}
use Rattle.table_print.specs.Table.{line_text}

-- the writer stands within a line: since the line began it wrote these fields of it
pub record IsWithin (start w : Writer (Vec ℕ Global)) (fields : List (List ℕ)) : Type 0 where
  pub text : Appends (written start) (written w) (row_body default_writer fields)
  pub count : fields_written w ≡ length fields
  pub blank : is_blank default_writer fields ≡ (not (has_written w) && ((length fields == 0) || (length fields == 1)))
  pub setup : writer_setup w ≡ default_writer

-- a writer wrote a line of these fields
abbrev pub WritesLine : Writer (Vec ℕ Global) → Writer (Vec ℕ Global) → List (List ℕ) → Type 0
WritesLine old new fields = Writes old new (line_text fields)
