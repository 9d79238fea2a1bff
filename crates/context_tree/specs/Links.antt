-- Which contexts of a tree there are, by their slots, and below which other each was made. (Contexts are made below others
-- in PostgreSQL: `src/backend/utils/mmgr/README`.)
use Rattle.std.specs.Prelude.{◌≡◌, ℕ, zero, suc, ◌<◌, ◌+◌, ◌==◌, ◌&&◌, ◌||◌, not, Bool, true, false, cond, List, [], ◌∷◌, Option, Some}
use Rattle.std.specs.Prelude.{None, length, get_or, is_some}
use Rattle.context_tree.specs.declared.links.Link.{Link}

-- the slot of the context below which a context was made
abbrev pub parent_of : Option Link → Option ℕ
parent_of None = None
parent_of (Some l) = l.parent

-- the stamp of a context, and 0 of none
abbrev pub stamp_of : Option Link → ℕ
stamp_of None = 0
stamp_of (Some l) = l.stamp

-- whether a test is true of what is there
abbrev pub is_true_of : Option ℕ → (ℕ → Bool) → Bool
is_true_of None test = false
is_true_of (Some x) test = test x

-- whether one comes from a slot to another by looking at a parent so many times at most
unfoldable pub leads_to : ℕ → List (Option Link) → ℕ → ℕ → Bool
leads_to zero ls above slot = slot == above
leads_to (suc steps) ls above slot = (slot == above) || is_true_of (parent_of (get_or ls slot None)) (leads_to steps ls above)

-- whether the context in a slot is the one in another, or a descendant of it. (The stamp of a parent is lower than its
-- child's, so there are no more parents than the number of the stamp.)
unfoldable pub is_below : List (Option Link) → ℕ → ℕ → Bool
is_below ls above slot = leads_to (stamp_of (get_or ls slot None)) ls above slot

-- whether it is a descendant
abbrev pub is_under : List (Option Link) → ℕ → ℕ → Bool
is_under ls above slot = is_below ls above slot && not (slot == above)

-- a list, the first of whose places has this number, with x at the places that are gone
abbrev pub cleared : {X : Type 0} → (ℕ → Bool) → X → ℕ → List X → List X
cleared gone x place [] = []
cleared gone x place (y ∷ ys) = cond (gone place) x y ∷ cleared gone x (place + 1) ys

-- a list with x at a place, or behind the last one
abbrev pub placed : {X : Type 0} → List X → ℕ → X → List X
placed [] place x = x ∷ []
placed (y ∷ ys) zero x = x ∷ ys
placed (y ∷ ys) (suc place) x = y ∷ placed ys place x

-- a context in a slot, of a stamp, was made below one that is there, of a lower stamp; the root is in slot 0
abbrev pub IsMadeBelow : List (Option Link) → ℕ → ℕ → Option ℕ → Type 0
IsMadeBelow ls slot stamp None = slot ≡ 0
IsMadeBelow ls slot stamp (Some parent) = (stamp_of (get_or ls parent None) < stamp) × (is_some (get_or ls parent None) ≡ true)

pub record IsForest (ls : List (Option Link)) : Type 0 where
  pub root : is_some (get_or ls 0 None) ≡ true
  pub top : parent_of (get_or ls 0 None) ≡ None
  pub below : (slot : ℕ) → (link : Link) → get_or ls slot None ≡ Some link → IsMadeBelow ls slot link.stamp link.parent

-- no slot is free
abbrev pub IsFull : List (Option Link) → Type 0
IsFull ls = (slot : ℕ) → slot < length ls → is_some (get_or ls slot None) ≡ true

-- just the free slots are marked, and each slot but the root's can be marked
pub record AreFree (ls : List (Option Link)) (marks : List Bool) : Type 0 where
  pub free : (slot : ℕ) → get_or marks slot false ≡ true → (slot < length ls) × (get_or ls slot None ≡ None)
  pub all : (slot : ℕ) → slot < length ls → get_or ls slot None ≡ None → get_or marks slot false ≡ true
  pub long : (slot : ℕ) → 0 < slot → slot < length ls → slot < length marks
