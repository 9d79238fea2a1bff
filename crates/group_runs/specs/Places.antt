-- Where keys stand in a run. All of this is our own.
use Rattle.std.specs.Prelude.{◌≡◌, ◌≢◌, ℕ, ◌≤◌, ◌++◌, List, ◌∷◌, length, drop, Some, slice_get, slice_range}
use Rattle.std.specs.declared.cmp.Ordering.TheVariants.{Less, Greater}
use Rattle.std.specs.Ordering.{nat_cmp}
use Rattle.std.specs.Cmp.Lexicographic.{slice_cmp}
use Rattle.std.specs.List.{AllByRecursion}
use Rattle.grouping_model.specs.Aggregates.{Function}
use Rattle.group_runs.specs.Runs.{Entry, packed_keys}
use Rattle.group_runs.specs.Steps.{HaveRoomForMore, CombineWith}

-- a group's key is below a key, or isn't
abbrev pub IsBelow : List ℕ → Entry → Type 0
IsBelow key entry = slice_cmp nat_cmp entry.0 key ≡ Less

abbrev pub IsNotBelow : List ℕ → Entry → Type 0
IsNotBelow key entry = slice_cmp nat_cmp entry.0 key ≢ Less

-- all these groups have keys below a key
abbrev pub AllBelow : List ℕ → List Entry → Type 0
AllBelow key run = AllByRecursion (IsBelow key) run

-- all of them have keys above a key
abbrev pub AllAbove : List ℕ → List Entry → Type 0
AllAbove key run = AllByRecursion (λ (e : Entry). slice_cmp nat_cmp key e.0 ≡ Less) run

-- none of them has a key above a key
abbrev pub AreUpTo : List ℕ → List Entry → Type 0
AreUpTo key run = AllByRecursion (λ (e : Entry). slice_cmp nat_cmp e.0 key ≢ Greater) run

-- the place of a key: groups below it stand from a place up to there, and from there on none is below
pub record IsPlaceOf (run : List Entry) (from : ℕ) (key : List ℕ) (place : ℕ) : Type 0 where
  pub behind : from ≤ place
  pub within : place ≤ length run
  pub below : AllBelow key (slice_range run from place)
  pub not_below : AllByRecursion (IsNotBelow key) (drop place run)

-- two places between which the place of a key lies: groups below it stand from a place up to the first of them, and from the
-- second on none is below
pub record IsBetween (run : List Entry) (from low high : ℕ) (key : List ℕ) : Type 0 where
  pub behind : from ≤ low
  pub order : low ≤ high
  pub within : high ≤ length run
  pub below : AllBelow key (slice_range run from low)
  pub not_below : AllByRecursion (IsNotBelow key) (drop high run)

-- a run has a key; it has it at a place
abbrev pub HasKey : List Entry → List ℕ → Type 0
HasKey run key = (i : ℕ) × (slice_get (packed_keys run) i ≡ Some key)

abbrev pub HasKeyAt : List Entry → ℕ → List ℕ → Type 0
HasKeyAt run place key = slice_get (packed_keys run) place ≡ Some key

-- the states at a place of a run can be combined with others, and are
pub record HasStatesFor (these : List Function) (run : List Entry) (place : ℕ) (more : List ℕ) : Type 0 where
  pub front : List Entry
  pub entry : Entry
  pub back : List Entry
  pub is : run ≡ front ++ entry ∷ back
  pub long : length front ≡ place
  pub room : HaveRoomForMore these entry.1 more

abbrev pub CombinesAt : List Function → List Entry → ℕ → List ℕ → List Entry → Type 0
CombinesAt these old place more new =
    (front : List Entry) (entry : Entry) (back : List Entry)
    → old ≡ front ++ entry ∷ back
    → length front ≡ place
    → (states : List ℕ) × (new ≡ front ++ (entry.0, states) ∷ back) × CombineWith these entry.1 more states
