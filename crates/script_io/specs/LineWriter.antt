-- What a writer of lines in memory has written. All of this is our own.
use Rattle.std.specs.Prelude.{ℕ, ◌≡◌, List, Option, Some, false}
use Rattle.std.specs.declared.alloc.Global.{Global}
use Rattle.std.specs.declared.vec.Vec.{Vec}
use Rattle.std.specs.Io.KnownBytes.{Appends}
use Rattle.csv.specs.Writing.{default_writer, fields_written, has_written, text_written, writer_setup}
use Rattle.csv.specs.declared.writer.Writer.{Writer}

-- the bytes that a writer to memory has written
abbrev pub written : Writer (Vec ℕ Global) → Option (List ℕ)
written w = text_written (λ (v : Vec ℕ Global). Some v.items) w

-- the writer stands between two lines, and has csv's defaults
pub record IsBetween (w : Writer (Vec ℕ Global)) : Type 0 where
  pub fields : fields_written w ≡ 0
  pub clean : has_written w ≡ false
  pub setup : writer_setup w ≡ default_writer

-- a writer wrote these bytes, and nothing else
abbrev pub Writes : Writer (Vec ℕ Global) → Writer (Vec ℕ Global) → List ℕ → Type 0
Writes old new bytes = Appends (written old) (written new) bytes
