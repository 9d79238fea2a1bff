-- Slots in a ring, of which each knows the one after it and the one before. All of this is our own. (PostgreSQL keeps the
-- children of a context in such lists: `firstchild`, `prevchild` and `nextchild` of `MemoryContextData`.)
use Rattle.std.specs.Prelude.{◌≡◌, ℕ, zero, suc, ◌<◌, ◌==◌, ◌||◌, Bool, true, false, cond, List, [], ◌∷◌, ◌++◌, get_or}
use Rattle.context_tree.specs.declared.ring.Near.{Near}

-- the slots of a ring from the first one on, which is the root's; and the number below which slots can be put into it
pub record RingState : Type 0 where
  pub slots : List ℕ
  pub room : ℕ

-- the slot after one, and the slot before it
abbrev pub after_at : List Near → ℕ → ℕ
after_at near slot = (get_or near slot (record { after = 0; before = 0 })).after

abbrev pub before_at : List Near → ℕ → ℕ
before_at near slot = (get_or near slot (record { after = 0; before = 0 })).before

-- the first of some slots, or else this one
abbrev pub head_or : List ℕ → ℕ → ℕ
head_or [] other = other
head_or (slot ∷ slots) other = slot

-- whether a slot is among others
abbrev pub is_in : ℕ → List ℕ → Bool
is_in slot [] = false
is_in slot (other ∷ others) = (slot == other) || is_in slot others

-- no slot is there twice
abbrev pub AreApart : List ℕ → Type 0
AreApart [] = Unit {0}
AreApart (slot ∷ slots) = (is_in slot slots ≡ false) × AreApart slots

-- each leads to the next, and the last one to this slot
abbrev pub IsLed : (ℕ → ℕ) → List ℕ → ℕ → Type 0
IsLed after [] last = Unit {0}
IsLed after (slot ∷ slots) last = (after slot ≡ head_or slots last) × IsLed after slots last

-- so many slots at most, from one on to the root's
abbrev pub walk : ℕ → (ℕ → ℕ) → ℕ → List ℕ
walk zero after slot = []
walk (suc steps) after slot = slot ∷ cond (after slot == 0) [] (walk steps after (after slot))

-- slots below a number stand in a ring that begins at the root's
pub record IsRing (room : ℕ) (after before : ℕ → ℕ) (slots : List ℕ) : Type 0 where
  pub first : head_or slots 1 ≡ 0
  pub led : IsLed after slots 0
  pub apart : AreApart slots
  pub low : (slot : ℕ) → is_in slot slots ≡ true → slot < room
  pub back : (slot : ℕ) → is_in slot slots ≡ true → before (after slot) ≡ slot

-- what stands between two slots of a ring
pub record IsBetween (slots : List ℕ) (slot next : ℕ) : Type 0 where
  pub front : List ℕ
  pub between : List ℕ
  pub rest : List ℕ
  pub split : slots ≡ front ++ slot ∷ (between ++ rest)
  pub ends : next ≡ head_or rest 0
