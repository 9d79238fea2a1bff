-- What holds of each element of a list, and of each two, by recursion.
use Rattle.std.specs.Prelude.{Bool, List, [], ◌∷◌, cond}

-- P holds of each element
abbrev pub Every : {X : Type 0} → (X → Type 0) → List X → Type 0
Every P [] = Unit {0}
Every P (x ∷ xs) = P x × Every P xs

-- R holds of each element and each later one
abbrev pub Pairwise : {X : Type 0} → (X → X → Type 0) → List X → Type 0
Pairwise R [] = Unit {0}
Pairwise R (x ∷ xs) = Every (R x) xs × Pairwise R xs

-- the first element at which the test gives true, or else
abbrev pub first_by : {X : Type 0} → (X → Bool) → X → List X → X
first_by test other [] = other
first_by test other (x ∷ xs) = cond (test x) x (first_by test other xs)
