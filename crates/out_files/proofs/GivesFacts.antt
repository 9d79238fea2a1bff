-- Readers that give some bytes, or others.
use Rattle.std.proofs.Common.{◌≡◌, ◌≢◌, ◌∙◌, ◌++◌, ℕ, List, Option, None, Some, sym}
use Rattle.std.proofs.lemmas.List.{append_cancel_left}
use Rattle.std.specs.Io.KnownBytes.{Consumes}
use Rattle.out_files.specs.Reading.{HadOthers}

-- a reader that gave the front of some bytes, and had others left then than their rest, had others
pub other-front : (a b : Option (List ℕ)) (all front left : List ℕ) → Consumes a b front → all ≡ front ++ left → HadOthers b left
    → HadOthers a all
other-front None b all front left p e n = tt
other-front (Some x) None all front left p e n = absurd p
other-front (Some x) (Some y) all front left p e n = λ same. n (append_cancel_left front y left (sym p ∙ same ∙ e))

-- one that gave a piece which these bytes don't begin with had others
pub other-piece : (b c : Option (List ℕ)) (piece left : List ℕ) → Consumes b c piece → ((rest : List ℕ) → left ≢ piece ++ rest)
    → HadOthers b left
other-piece None c piece left p n = tt
other-piece (Some y) None piece left p n = absurd p
other-piece (Some y) (Some z) piece left p n = λ same. n z (sym same ∙ p)
