-- What a writer took of some bytes.
use Rattle.std.specs.Prelude.{ℕ, ◌≡◌, ◌<◌, List, ◌++◌, length, Option, Result, MatchResult}
use Rattle.std.specs.Io.KnownBytes.{Appends}
use Rattle.std.specs.Result.{is_err}
use Rattle.script_io.specs.declared.fused.Fused.{Fused}
use Rattle.script_io.specs.Fused.{FailsAsTold, written}

-- own: a writer took a prefix of these bytes, and nothing else
abbrev pub TakesFront : Option (List ℕ) → Option (List ℕ) → List ℕ → Type 0
TakesFront old new bytes = (front rest : List ℕ) × (bytes ≡ front ++ rest) × Appends old new front

-- own: the same, and at least the last byte is missing
abbrev pub StopsShort : Option (List ℕ) → Option (List ℕ) → List ℕ → Type 0
StopsShort old new bytes = (front rest : List ℕ) × (bytes ≡ front ++ rest) × (0 < length rest)
    × Appends old new front

-- own: what a call makes of some bytes: all are written, or it stops short of the last; and it stops exactly where the writer failed
abbrev pub IsPut : {W A E : Type 0} → (W → Option (List ℕ)) → Fused W → Fused W → Result A E → List ℕ → Type 0
IsPut contents old new result bytes =
    MatchResult result (λ _. Appends (written contents old) (written contents new) bytes)
    (λ _. StopsShort (written contents old) (written contents new) bytes) × FailsAsTold old new (is_err result)
