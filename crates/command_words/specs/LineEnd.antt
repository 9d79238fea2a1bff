-- A text without the line end behind it. All of this is our own.
use Rattle.std.specs.Prelude.{◌≡◌, ◌≢◌, ◌⊎◌, ℕ, List, [], ◌∷◌, ◌++◌}

-- a text ends with a byte
abbrev pub EndsWith : ℕ → List ℕ → Type 0
EndsWith byte text = (front : List ℕ) × (text ≡ front ++ (byte ∷ []))

-- a text doesn't end with a byte
abbrev pub EndsOtherwise : ℕ → List ℕ → Type 0
EndsOtherwise byte text = (front : List ℕ) → text ≢ front ++ (byte ∷ [])

-- what is left of a text without a line feed behind it, and without a carriage return before that; or all of it, where it has no line feed
abbrev pub DropsLineEnd : (text rest : List ℕ) → Type 0
DropsLineEnd text rest =
    (text ≡ rest ++ (13 ∷ 10 ∷ [])) ⊎ ((text ≡ rest ++ (10 ∷ [])) × EndsOtherwise 13 rest) ⊎ ((rest ≡ text) × EndsOtherwise 10 text)
