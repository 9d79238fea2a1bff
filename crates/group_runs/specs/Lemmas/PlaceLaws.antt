-- Where keys stand in a run.
use Rattle.std.specs.Prelude.{◌≡◌, ℕ, zero, suc, ◌+◌, ◌-◌, ◌<◌, ◌≤◌, List, [], ◌∷◌, ◌++◌, length, take, drop, Some, slice_get, slice_range}
use Rattle.std.proofs.Common.{sym, ◌∙◌, ap, subst, arith, add-one}
use Rattle.std.proofs.lemmas.List.{drop-take}
use Rattle.std.specs.declared.cmp.Ordering.TheVariants.{Less}
use Rattle.std.specs.Ordering.{nat_cmp}
use Rattle.std.specs.Cmp.Lexicographic.{slice_cmp}
use Rattle.std.specs.List.{AllByRecursion}
use Rattle.std.specs.List.Sorted.{IsStrictlySortedBy}
use Rattle.list_laws.specs.Each.{each_dropped}
use Rattle.group_runs.specs.Runs.{Entry, packed_keys, Rises}
use Rattle.group_runs.specs.Places.{IsBelow, AllBelow, AllAbove}
use Rattle.group_runs.specs.PlaceLaws.{key_total}

-- up to a group below a key, all groups of a run that rises are below it
before_below : (run : List Entry) (i : ℕ) (e : Entry) (key : List ℕ) → Rises run → slice_get run i ≡ Some e → IsBelow key e
    → AllBelow key (take (i + 1) run)
unfolding IsStrictlySortedBy
before_below [] i e key rises at below = absurd cc
before_below (x ∷ run) zero e key rises at below = let same : x ≡ e = cc in (subst (IsBelow key) (sym same) below, tt)
before_below (x ∷ run) (suc i) e key (above, rises) at below =
    subst (λ n. AllBelow key (take n (x ∷ run))) (sym (add-one (suc i))) (
      key_total.trans x.0 e.0 key (above_at run i above at) below,
      subst (λ n. AllBelow key (take n run)) (add-one i)
          (before_below run i e key rises at below),
    )
  where
    above_at : (es : List Entry) (i : ℕ) → AllByRecursion (λ k. slice_cmp nat_cmp x.0 k ≡ Less) (packed_keys es) → slice_get es i ≡ Some e
        → slice_cmp nat_cmp x.0 e.0 ≡ Less
    above_at [] i all at = absurd cc
    above_at (y ∷ es) zero all at = let same : y ≡ e = cc in subst (λ (y : Entry). slice_cmp nat_cmp x.0 y.0 ≡ Less) same all.0
    above_at (y ∷ es) (suc i) all at = above_at es i all.1 at

pub below_to : (run : List Entry) (from i : ℕ) (e : Entry) (key : List ℕ) → Rises run → from ≤ i → slice_get run i ≡ Some e → IsBelow key e
    → AllBelow key (slice_range run from (i + 1))
below_to run from i e key rises low at below =
    let whole : from + (i + 1 - from) ≡ i + 1 = omega (arith, low) in
    subst (AllBelow key) (ap (λ n. drop from (take n run)) (sym whole) ∙ drop-take from (i + 1 - from) run)
    (each_dropped (IsBelow key) from (take (i + 1) run) (before_below run i e key rises at below))

-- the group at a place, by its key
pub record KeyStands (run : List Entry) (place : ℕ) (key : List ℕ) : Type 0 where
  pub states : List ℕ
  pub left : drop place run ≡ (key, states) ∷ drop (place + 1) run
  pub is : run ≡ take place run ++ (key, states) ∷ drop (place + 1) run
  pub long : length (take place run) ≡ place
  pub low : place < length run

-- a group goes between those below and those above
pub rises_between : (front back : List Entry) (key states : List ℕ) → Rises (front ++ back) → AllBelow key front → AllAbove key back
    → Rises (front ++ (key, states) ∷ back)
unfolding IsStrictlySortedBy
rises_between [] back key states rises below above = (all_keys back above, rises)
  where
    all_keys : (es : List Entry) → AllAbove key es → AllByRecursion (λ z. slice_cmp nat_cmp key z ≡ Less) (packed_keys es)
    all_keys [] all = tt
    all_keys (e ∷ es) (first, all) = (first, all_keys es all)
rises_between (e ∷ front) back key states (over, rises) (low, below) above = (
  through front over,
  rises_between front back key states rises
      below above,
)
  where
    through : (es : List Entry) → AllByRecursion (λ z. slice_cmp nat_cmp e.0 z ≡ Less) (packed_keys (es ++ back))
        → AllByRecursion (λ z. slice_cmp nat_cmp e.0 z ≡ Less) (packed_keys (es ++ (key, states) ∷ back))
    through [] all = (low, all)
    through (x ∷ es) (first, all) = (first, through es all)

-- the groups up to a key move from what is left to what is done, where the key is there
pub record Moves (done old : List Entry) (from place : ℕ) (key : List ℕ) : Type 0 where
  pub states : List ℕ
  pub whole : done ++ drop from old ≡ (done ++ slice_range old from place) ++ (key, states) ∷ drop (place + 1) old
  pub front : done ++ slice_range old from (place + 1) ≡ (done ++ slice_range old from place) ++ (key, states) ∷ []
  pub below : AllBelow key (done ++ slice_range old from place)
  pub low : place < length old

-- where it isn't
pub record Passes (done old : List Entry) (from place : ℕ) (key : List ℕ) : Type 0 where
  pub whole : done ++ drop from old ≡ (done ++ slice_range old from place) ++ drop place old
  pub below : AllBelow key (done ++ slice_range old from place)
  pub above : AllAbove key (drop place old)
