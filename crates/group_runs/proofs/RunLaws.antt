-- Runs and the groups that they stand for.
use Rattle.std.specs.Prelude.{◌≡◌, ℕ, ◌+◌, ◌≤◌, length, true, false, cond, List, [], ◌∷◌, ◌++◌, find, take, Some, option_map, IfSome}
use Rattle.std.specs.Prelude.{slice_get}
use Rattle.std.proofs.Common.{sym, ◌∙◌, ap, subst, arith}
use Rattle.std.proofs.lemmas.List.{map-append, take_all}
use Rattle.std.specs.declared.cmp.Ordering.{Ordering}
use Rattle.std.specs.declared.cmp.Ordering.TheVariants.{Less}
use Rattle.std.specs.Ordering.{nat_cmp}
use Rattle.std.specs.Cmp.Lexicographic.{slice_cmp}
use Rattle.std.specs.List.{AllByRecursion}
use Rattle.std.specs.List.Sorted.{IsStrictlySortedBy}
use Rattle.group_runs.proofs.Words.{Row, same_row, Query, Group, partials_at, most_rows, AllWithin, Entry, packed_keys, Rises, AreGroups}
use Rattle.group_runs.proofs.Words.{Function, groups_added, HasRoomForGroup, AddsGroup, HasRoomForRun, AddsRun, CanAddRun}
use Rattle.group_runs.proofs.StateLaws.{all_within}
use Rattle.group_runs.specs.Lemmas.MergeLaws.{found_still, none_before, groups_added_more}
use Rattle.group_runs.specs.StandingLaws.{group_at, groups_long}
use Rattle.group_runs.specs.PlaceLaws.{take_found}
use Rattle.group_runs.specs.Lemmas.RunLaws.{run_apart}

-- what a group's states count at most
pub found_within : (q : Query) (most : ℕ) (run : List Entry) (groups : List Group) (key : Row) → AreGroups q most run groups
    → IfSome (partials_at key groups) (AllWithin most)
found_within q most [] [] key are = tt
found_within q most (e ∷ run) (g ∷ groups) key (first, rest) =
    elim (same_row g.0 key) as (λ b. IfSome
    (option_map (λ (group : Group). group.1) (cond b (Some g) (find (λ (group : Group). same_row group.0 key) groups)))
    (AllWithin most)) [
      | true ↦ all_within most first.states.kinds e.1 g.1 first.states.denote
      | false ↦ found_within q most run groups key rest
    ]
found_within q most _ _ key are = absurd are

-- a group's key is new where those before it were added
pub within_at : (q : Query) (m n : ℕ) (old run : List Entry) (groups more : List Group) (i : ℕ) (g : Group) → AreGroups q m old groups
    → AreGroups q n run more → Rises run → slice_get more i ≡ Some g → IfSome (partials_at g.0 (groups_added q groups (take i more)))
    (AllWithin m)
within_at q m n old run groups more i g are new rises at =
    subst (λ o. IfSome o (AllWithin m))
    (sym (found_still q g.0 groups (take i more) (none_before more i g (run_apart q n run more new rises) at)))
    (found_within q m old groups g.0 are)

-- a run that can be added rises
pub rises_of : (these : List Function) (old run : List Entry) → CanAddRun these old run → Rises run
rises_of these old run (q, named, has) = has.6

-- ---- the groups of a run are added in turn
-- those before a place were
abbrev pub AddsFirst : Query → List Entry → List Entry → ℕ → List Entry → Type 0
AddsFirst query old run i done =
    (m n : ℕ) (groups more : List Group)
    → m + n ≤ most_rows
    → AreGroups query m old groups
    → AreGroups query n run more
    → AreGroups query (m + n) done (groups_added query groups (take i more))

module _ (q : Query) (old run done : List Entry) (i : ℕ) (added : AddsFirst q old run i done) where
  -- there is room for the next
  pub room_next : (e : Entry) → slice_get run i ≡ Some e → HasRoomForRun q old run → HasRoomForGroup q done e
  room_next e at r =
      let found = group_at q r.1 run r.3 i e r.5 at in (
        r.0,
        r.1,
        groups_added q r.2 (take i r.3),
        found.group,
        added r.0 r.1 r.2 r.3 r.7 r.4 r.5,
        within_at q r.0 r.1 old run r.2 r.3 i
            found.group r.4 r.5 r.6 found.at,
        found.stands,
        r.7,
      )

  -- and with it one more was
  pub added_next : (new : List Entry) (e : Entry) → slice_get run i ≡ Some e → Rises run → AddsGroup q done e new
      → AddsFirst q old run (i + 1) new
  added_next new e at rises adds = λ m n groups more low are news.
      let found = group_at q n run more i e news at in
      subst (AreGroups q (m + n) new) (sym (ap (groups_added q groups) (take_found more i found.group found.at)
      ∙ groups_added_more q groups (take i more) found.group))
      (adds m n (groups_added q groups (take i more)) found.group low (added m n groups more low are news)
      (within_at q m n old run groups more i found.group are news rises found.at) found.stands)

  -- in the end all were
  pub added_all : length run ≤ i → AddsRun q old run done
  added_all past = λ m n groups more low are news.
      let long = groups_long q n run more news in
      subst (λ more. AreGroups q (m + n) done (groups_added q groups more)) (take_all i more (omega (arith, past, long)))
      (added m n groups more low are news)

-- ---- fronts
-- the front of a rising list rises
pub front_rises : {X : Type 0} (cmp : X → X → Ordering) (xs ys : List X) → IsStrictlySortedBy cmp (xs ++ ys) → IsStrictlySortedBy cmp xs
unfolding IsStrictlySortedBy
front_rises {X = X} cmp [] ys rising = tt
front_rises {X = X} cmp (x ∷ xs) ys (above, rising) = (front xs above, front_rises cmp xs ys rising)
  where
    front : (zs : List X) → AllByRecursion (λ z. cmp x z ≡ Less) (zs ++ ys) → AllByRecursion (λ z. cmp x z ≡ Less) zs
    front [] all = tt
    front (z ∷ zs) (first, all) = (first, front zs all)

pub run_front_rises : (run rest : List Entry) → Rises (run ++ rest) → Rises run
run_front_rises run rest rises = front_rises (slice_cmp nat_cmp) (packed_keys run) (packed_keys rest)
    (subst (IsStrictlySortedBy (slice_cmp nat_cmp)) (map-append (λ (e : Entry). e.0) run rest) rises)
