-- What a sentence in the making says: its bytes so far, or nothing once memory was wanting. All of this is our own.
use Rattle.std.specs.Prelude.{◌≡◌, ◌⊎◌, ◌++◌, ℕ, Bool, true, false, List, [], ◌∷◌, Option, Some, None}

-- nothing is said yet, and no memory was wanting
abbrev pub is_silent : Option (List ℕ) → Bool
is_silent None = false
is_silent (Some []) = true
is_silent (Some (byte ∷ bytes)) = false

-- a sentence with a piece behind it
abbrev pub with_piece : Option (List ℕ) → List ℕ → Option (List ℕ)
with_piece None piece = None
with_piece (Some said) piece = Some (said ++ piece)

-- a piece goes behind what was said, or memory is wanting: for it, or for one before
abbrev pub Adds : List ℕ → Option (List ℕ) → Option (List ℕ) → Type 0
Adds piece before after = (after ≡ None) ⊎ (after ≡ with_piece before piece)

-- memory that was wanting stays wanting
abbrev pub StaysRefused : Option (List ℕ) → Option (List ℕ) → Type 0
StaysRefused before after = before ≡ None → after ≡ None
