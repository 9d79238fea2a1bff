-- The contexts of a tree in preorder, the youngest child first: each context is followed by its descendants, and these by all
-- else. (Preorder: D. E. Knuth, The Art of Computer Programming, volume 1, 2.3.1. That stamps tell where the descendants end is
-- our own.)
use Rattle.std.specs.Prelude.{◌≡◌, ℕ, ◌<◌, ◌≤◌, nat_lt, cond, List, [], ◌∷◌, ◌++◌, Option, Some, None, get_or, is_some}
use Rattle.context_tree.specs.Links.{parent_of, stamp_of}
use Rattle.context_tree.specs.Rings.{head_or, is_in, AreApart}
use Rattle.context_tree.specs.declared.links.Link.{Link}

-- the stamp of the context in a slot
abbrev pub stamp_in : List (Option Link) → ℕ → ℕ
stamp_in ls slot = stamp_of (get_or ls slot None)

-- the first of some slots whose context is older than a stamp
abbrev pub nearest : List (Option Link) → ℕ → List ℕ → Option ℕ
nearest ls stamp [] = None
nearest ls stamp (slot ∷ slots) = cond (nat_lt (stamp_in ls slot) stamp) (Some slot) (nearest ls stamp slots)

-- after those seen, the last of them first, slots follow in preorder: the parent of each context is the nearest one before it that
-- is older
abbrev pub IsPreorder : List (Option Link) → List ℕ → List ℕ → Type 0
IsPreorder ls seen [] = Unit {0}
IsPreorder ls seen (slot ∷ slots) = (parent_of (get_or ls slot None) ≡ nearest ls (stamp_in ls slot) seen)
    × IsPreorder ls (slot ∷ seen) slots

-- just the slots in which there is a context are there, each once and in preorder
pub record IsOrdered (ls : List (Option Link)) (slots : List ℕ) : Type 0 where
  pub apart : AreApart slots
  pub live : (slot : ℕ) → is_in slot slots ≡ is_some (get_or ls slot None)
  pub preorder : IsPreorder ls [] slots

-- slots whose contexts are all younger than a stamp, and slots of which the first has none such
abbrev pub AreLater : List (Option Link) → ℕ → List ℕ → Type 0
AreLater ls stamp [] = Unit {0}
AreLater ls stamp (slot ∷ slots) = (stamp < stamp_in ls slot) × AreLater ls stamp slots

abbrev pub Ends : List (Option Link) → ℕ → List ℕ → Type 0
Ends ls stamp [] = Unit {0}
Ends ls stamp (slot ∷ slots) = stamp_in ls slot ≤ stamp

-- a walk from a context over what follows with later stamps: those that are done, and the rest, which begins here
pub record Walk (ls : List (Option Link)) (slots : List ℕ) (above at : ℕ) : Type 0 where
  pub front : List ℕ
  pub done : List ℕ
  pub rest : List ℕ
  pub split : slots ≡ front ++ above ∷ (done ++ rest)
  pub here : at ≡ head_or rest 0
  pub later : AreLater ls (stamp_in ls above) done

-- a walk that is past the last of them
pub record IsPast (ls : List (Option Link)) (slots : List ℕ) (above at : ℕ) : Type 0 where
  pub walk : Walk ls slots above at
  pub ends : Ends ls (stamp_in ls above) walk.rest
