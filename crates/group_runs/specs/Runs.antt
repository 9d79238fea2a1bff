-- Runs of groups in bytes. All of this is our own.
use Rattle.std.specs.Prelude.{◌≡◌, ℕ, ◌+◌, ◌-◌, ◌^◌, ◌<◌, ◌≤◌, List, [], ◌∷◌, map, length, slice_range}
use Rattle.std.specs.List.{flat_map}
use Rattle.std.specs.Ordering.{nat_cmp}
use Rattle.std.specs.Cmp.Lexicographic.{slice_cmp}
use Rattle.std.specs.List.Sorted.{IsStrictlySortedBy}

-- a packed key, and the bytes of its states
abbrev pub Entry : Type 0
Entry = List ℕ × List ℕ

-- the packed keys
abbrev pub packed_keys : List Entry → List (List ℕ)
packed_keys run = map (λ (e : Entry). e.0) run

-- each packed key is above the one before it, byte by byte
abbrev pub Rises : List Entry → Type 0
Rises run = IsStrictlySortedBy (slice_cmp nat_cmp) (packed_keys run)

-- the packed keys end to end, and the states end to end
abbrev pub keys_concatenated : List Entry → List ℕ
keys_concatenated run = flat_map (λ (e : Entry). e.0) run

abbrev pub states_concatenated : List Entry → List ℕ
states_concatenated run = flat_map (λ (e : Entry). e.1) run

-- where a group that begins at these places ends, in the keys and in the states
abbrev pub end_of : ℕ × ℕ → Entry → ℕ × ℕ
end_of from entry = (from.0 + length entry.0, from.1 + length entry.1)

-- where each group ends, the first beginning at these places
abbrev pub ends_of : ℕ × ℕ → List Entry → List (ℕ × ℕ)
ends_of from [] = []
ends_of from (entry ∷ run) = end_of from entry ∷ ends_of (end_of from entry) run

-- the groups that keys and states end to end make up, by where each ends, the first beginning at these places
abbrev pub cut : List ℕ → List ℕ → ℕ × ℕ → List (ℕ × ℕ) → List Entry
cut keys states from [] = []
cut keys states from (to ∷ ends) = (slice_range keys from.0 to.0, slice_range states from.1 to.1) ∷ cut keys states to ends

abbrev pub all_cut : List ℕ → List ℕ → List (ℕ × ℕ) → List Entry
all_cut keys states ends = cut keys states (0, 0) ends

-- keys end to end, states end to end and where each group ends are those of a run
pub record LieAs (keys states : List ℕ) (ends : List (ℕ × ℕ)) (run : List Entry) : Type 0 where
  pub keys_are : keys ≡ keys_concatenated run
  pub states_are : states ≡ states_concatenated run
  pub ends_are : ends ≡ ends_of (0, 0) run

-- they are those of the run that they make up, whose keys rise
pub record AreRun (keys states : List ℕ) (ends : List (ℕ × ℕ)) : Type 0 where
  pub lie : LieAs keys states ends (all_cut keys states ends)
  pub rises : Rises (all_cut keys states ends)

-- an end of a group that begins at these places or after them
abbrev pub IsEndFrom : ℕ × ℕ → ℕ × ℕ → Type 0
IsEndFrom start end = (start.0 ≤ end.0) × (end.0 < 2 ^ 63) × (start.1 ≤ end.1) × (end.1 < 2 ^ 63)

-- where it ends if what began at the first places begins at the others
abbrev pub moved : ℕ × ℕ → ℕ × ℕ → ℕ × ℕ → ℕ × ℕ
moved start behind end = (behind.0 + (end.0 - start.0), behind.1 + (end.1 - start.1))
