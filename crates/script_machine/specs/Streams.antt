-- What a run reads and writes, as far as the models of its streams have it. All of this is our own.
use Rattle.std.specs.Prelude.{ℕ, List, Option, IfSome}
use Rattle.std.specs.Io.KnownBytes.{Appends}
use Rattle.script_io.specs.Fused.{unread, written}
use Rattle.script_io.specs.declared.fused.Fused.{Fused}

-- the bytes of the script, and those of the writer before and after: as streams in memory have them. Where a model has none it is `None`
pub record Streams : Type 0 where
  pub script : Option (List ℕ)
  pub old : Option (List ℕ)
  pub new : Option (List ℕ)

abbrev pub streams : {R W : Type 0} → (R → Option (List ℕ)) → (W → Option (List ℕ)) → Fused R → (old new : Fused W) → Streams
streams remaining contents reader old new =
    record { script = unread remaining reader; old = written contents old; new = written contents new }

-- an output was appended to what the writer had, and this holds of the script and the output
abbrev pub Wrote : Streams → (List ℕ → List ℕ → Type 0) → Type 0
Wrote streams holds =
    IfSome streams.script (λ script. (output : List ℕ) × Appends streams.old streams.new output × holds script output)
