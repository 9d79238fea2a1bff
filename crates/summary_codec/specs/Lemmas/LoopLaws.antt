-- Reading one thing after another.
use Rattle.std.proofs.Common.{ℕ, List, Ok, Err, inr}
use Rattle.summary_codec.specs.Reading.{Outcome, Reader, both}

-- a first step that gives a value goes on with the second
pub goes_on : {A B : Type 0} (first : Reader A) (next : A → Reader B) (bytes rest : List ℕ) (x : A) (out : Outcome B)
    → first bytes (Ok (x, rest)) → next x rest out → both first next bytes out
goes_on first next bytes rest x (Ok found) there more = (x, rest, there, more)
goes_on first next bytes rest x (Err e) there more = inr (x, rest, there, more)
