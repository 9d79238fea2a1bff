-- Rows that lie end to end, of elements of any type. All of this is our own.
use Rattle.std.specs.Prelude.{◌≡◌, ℕ, ◌+◌, List, [], ◌∷◌, length, slice_range}
use Rattle.std.specs.List.{flat_map}

-- the rows that elements make up, by where each ends, the first beginning at a place
abbrev pub cut : {X : Type 0} → List X → ℕ → List ℕ → List (List X)
cut elements from [] = []
cut elements from (to ∷ ends) = slice_range elements from to ∷ cut elements to ends

-- rows end to end
abbrev pub concatenated : {X : Type 0} → List (List X) → List X
concatenated {X} rows = flat_map (λ (row : List X). row) rows

-- where each row ends, the first beginning at a place
abbrev pub ends_of : {X : Type 0} → ℕ → List (List X) → List ℕ
ends_of from [] = []
ends_of from (row ∷ rows) = (from + length row) ∷ ends_of (from + length row) rows

-- elements, and where each row ends, are those of rows
pub record LieAs {X : Type 0} (elements : List X) (ends : List ℕ) (rows : List (List X)) : Type 0 where
  pub elements_are : elements ≡ concatenated rows
  pub ends_are : ends ≡ ends_of 0 rows

-- they are those of the rows that they make up
abbrev pub AreRows : {X : Type 0} → List X → List ℕ → Type 0
AreRows elements ends = LieAs elements ends (cut elements 0 ends)
