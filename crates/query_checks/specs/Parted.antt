-- Lists as texts (own).
use Rattle.std.specs.Prelude.{ℕ, List, [], ◌∷◌, ◌++◌, codes}

-- texts, separated by commas
abbrev pub parted : List (List ℕ) → List ℕ
parted [] = []
parted (text ∷ []) = text
parted (text ∷ next ∷ texts) = text ++ codes ", " ++ parted (next ∷ texts)
