-- Where keys stand in a run.
use Rattle.std.specs.Prelude.{◌≡◌, ◌≢◌, refl, ℕ, zero, suc, ◌+◌, ◌-◌, ◌<◌, ◌≤◌, List, [], ◌∷◌, ◌++◌, length, take, drop, Bool, Some, IsTrue}
use Rattle.std.specs.Prelude.{◌↔◌, bytes_eq, nat_lt, slice_get, slice_range}
use Rattle.std.proofs.Common.{sym, ◌∙◌, ap, subst, arith, add-one, append_assoc}
use Rattle.std.proofs.lemmas.Slice.Eq.{bytes_eq-Decides}
use Rattle.std.proofs.lemmas.List.{take-append-drop, length-append, length-take}
use Rattle.std.specs.declared.cmp.Ordering.TheVariants.{Less, Equal, Greater}
use Rattle.std.specs.Ordering.{nat_cmp, ordering_reverse, is_lt}
use Rattle.std.specs.declared.cmp.Ordering.{Ordering}
use Rattle.grouping_model.specs.MemberLaws.{false_is_not_true}
use Rattle.std.specs.FinMap.{nat_cmp-IsAntisymmetric, slice_cmp-IsAntisymmetric}
use Rattle.std.proofs.lemmas.List.Folds.{drop_split}
use Rattle.std.proofs.Math.Seq.{take-add, take-append_seam}
use Rattle.std.specs.Cmp.Lexicographic.{slice_cmp}
use Rattle.std.specs.List.{AllByRecursion}
use Rattle.std.specs.List.Sorted.{IsStrictlySortedBy}
use Rattle.group_runs.proofs.Words.{each_append, each_weaker, Entry, packed_keys, Rises, IsBelow, IsNotBelow, AllAbove, AreUpTo, HasKey}
use Rattle.group_runs.proofs.Words.{HasKeyAt, IsBetween, IsPlaceOf}
use Rattle.group_runs.specs.Places.{AllBelow}
use Rattle.group_runs.specs.PlaceLaws.{drop_at, key_total}
use Rattle.group_runs.specs.Lemmas.PlaceLaws.{KeyStands, Moves, Passes}

-- ---- what comes behind a place
pub rises_drop : (n : ℕ) (run : List Entry) → Rises run → Rises (drop n run)
unfolding IsStrictlySortedBy
rises_drop zero run rises = rises
rises_drop (suc n) [] rises = rises
rises_drop (suc n) (e ∷ run) (above, rises) = rises_drop n run rises

-- what comes behind a group that is not below is not below
pub not_below_from : (run : List Entry) (i : ℕ) (e : Entry) (key : List ℕ) → Rises run → slice_get run i ≡ Some e → IsNotBelow key e
    → AllByRecursion (IsNotBelow key) (drop i run)
unfolding IsStrictlySortedBy
not_below_from [] i e key rises at high = absurd cc
not_below_from (x ∷ run) zero e key (above, rises) at high =
    let same : x ≡ e = cc in
    let here : IsNotBelow key x = subst (IsNotBelow key) (sym same) high in
    (here, behind here run above)
  where
    behind : IsNotBelow key x → (es : List Entry) → AllByRecursion (λ k. slice_cmp nat_cmp x.0 k ≡ Less) (packed_keys es)
        → AllByRecursion (IsNotBelow key) es
    behind here [] all = tt
    behind here (y ∷ es) (first, all) = (λ low. here (key_total.trans x.0 y.0 key first low), behind here es all)
not_below_from (x ∷ run) (suc i) e key (above, rises) at high = not_below_from run i e key rises at high

-- ---- a key that is there
pub key_at : (run : List Entry) (place : ℕ) (e : Entry) → slice_get run place ≡ Some e → HasKeyAt run place e.0
key_at [] place e at = absurd cc
key_at (x ∷ run) zero e at = let same : x ≡ e = cc in ap (λ (x : Entry). Some x.0) same
key_at (x ∷ run) (suc place) e at = key_at run place e at

-- no key is below itself
pub not_itself : (key : List ℕ) → slice_cmp nat_cmp key key ≢ Less
not_itself key low = less_twice (slice_cmp nat_cmp key key) low (key_total.antisymm key key)
  where
    less_twice : (r : Ordering) → r ≡ Less → r ≡ ordering_reverse r → ⊥
    less_twice Less e both = absurd cc
    less_twice Equal e both = absurd cc
    less_twice Greater e both = absurd cc

pub key_stands : (run : List Entry) (place : ℕ) (key : List ℕ) → HasKeyAt run place key → KeyStands run place key
key_stands run place key at =
    let found = states_of run place at in
    let left : drop place run ≡ (key, found.0) ∷ drop (place + 1) run = drop_at run place (key, found.0) found.1 in
    record {
      states = found.0;
      left = left;
      is = sym (take-append-drop place run) ∙ ap (λ es. take place run ++ es) left;
      long = let took = length-take place run in let low = found.2 in omega (arith, took, low);
      low = found.2;
    }
  where
    states_of : (run : List Entry) (place : ℕ) → HasKeyAt run place key → (states : List ℕ) × (slice_get run place ≡ Some (key, states))
        × (place < length run)
    states_of [] place at = absurd cc
    states_of (e ∷ run) zero at = let same : e.0 ≡ key = cc in (e.1, (λ i. Some (same i, e.1)), omega arith)
    states_of (e ∷ run) (suc place) at = let rest = states_of run place at in let low = rest.2 in (rest.0, rest.1, omega (arith, low))

-- whether the group at a place has a key, and past the last none has
pub has_here : (run : List Entry) (place : ℕ) (e : Entry) (key : List ℕ) (same : Bool) → slice_get run place ≡ Some e → same
    ≡ bytes_eq e.0 key → IsTrue same ↔ HasKeyAt run place key
has_here run place e key same at compared =
    let there = key_at run place e at in
    let decides = bytes_eq-Decides e.0 key in (
      λ is. there ∙ ap Some (decides.0 (sym compared ∙ is)),
      λ has. let both : Some e.0 ≡ Some key = sym there ∙ has in compared ∙ decides.1 cc,
    )

pub has_none : (run : List Entry) (place count : ℕ) (key : List ℕ) → count ≡ length run → count ≤ place → IsTrue (nat_lt place count)
    ↔ HasKeyAt run place key
has_none run place count key counted past = (
  λ is. absurd (grind (arith, is, past)),
  λ has. let stands = key_stands run place key has in
      absurd (omega (arith, stands.low, counted, past)),
)

key_below : (es : List Entry) (k key : List ℕ) (i : ℕ) → AllByRecursion (λ z. slice_cmp nat_cmp k z ≡ Less) (packed_keys es)
    → HasKeyAt es i key → slice_cmp nat_cmp k key ≡ Less
key_below [] k key i all at = absurd cc
key_below (e ∷ es) k key zero (first, all) at = let same : e.0 ≡ key = cc in subst (λ z. slice_cmp nat_cmp k z ≡ Less) same first
key_below (e ∷ es) k key (suc i) (first, all) at = key_below es k key i all at

-- a key that a run has stands at its place
place_has : (run : List Entry) (key : List ℕ) (place i : ℕ) → Rises run → AllBelow key (take place run)
    → AllByRecursion (IsNotBelow key) (drop place run) → HasKeyAt run i key → HasKeyAt run place key
unfolding IsStrictlySortedBy
place_has [] key place i rises below high at = absurd cc
place_has (e ∷ run) key zero zero rises below high at = at
place_has (e ∷ run) key zero (suc i) (above, rises) below high at = absurd (high.0 (key_below run e.0 key i above at))
place_has (e ∷ run) key (suc place) zero (above, rises) below high at =
    let same : e.0 ≡ key = cc in absurd (not_itself key (subst (λ k. slice_cmp nat_cmp k key ≡ Less) same below.0))
place_has (e ∷ run) key (suc place) (suc i) (above, rises) below high at = place_has run key place i rises below.1 high at

-- those before the place of a key, where those before a place are below it
pub below_front : (run : List Entry) (from : ℕ) (key : List ℕ) (place : ℕ) → AllBelow key (take from run) → IsPlaceOf run from key place
    → AllBelow key (take place run)
below_front run from key place below is =
    let low = is.behind in
    let whole : place ≡ from + (place - from) = omega (arith, low) in
    subst (AllBelow key) (sym (ap (λ n. take n run) whole ∙ take-add from (place - from) run))
    (each_append (IsBelow key) (take from run) (slice_range run from place) below is.below)

pub found_place : (run : List Entry) (from : ℕ) (key : List ℕ) (place : ℕ) → Rises run → AllBelow key (take from run)
    → IsPlaceOf run from key place → HasKey run key → HasKeyAt run place key
found_place run from key place rises below is has = place_has run key place has.0 rises (below_front run from key place below is)
    is.not_below has.1

-- ---- a key that is not there
above_all : (run : List Entry) (key : List ℕ) → Rises run → AllByRecursion (IsNotBelow key) run → (HasKeyAt run 0 key → ⊥)
    → AllAbove key run
unfolding IsStrictlySortedBy
above_all [] key rises high none = tt
above_all (e ∷ run) key (above, rises) (first, high) none =
    let here : slice_cmp nat_cmp key e.0 ≡ Less = cases (slice_cmp nat_cmp e.0 key) refl in
    (here, behind here run above)
  where
    cases : (r : Ordering) → slice_cmp nat_cmp e.0 key ≡ r → slice_cmp nat_cmp key e.0 ≡ Less
    cases Less is = absurd (first is)
    cases Equal is = absurd (none (ap Some (slice_cmp-IsAntisymmetric nat_cmp-IsAntisymmetric e.0 key is)))
    cases Greater is = key_total.antisymm key e.0 ∙ ap ordering_reverse is

    behind : slice_cmp nat_cmp key e.0 ≡ Less → (es : List Entry) → AllByRecursion (λ z. slice_cmp nat_cmp e.0 z ≡ Less) (packed_keys es)
        → AllAbove key es
    behind here [] all = tt
    behind here (x ∷ es) (low, all) = (key_total.trans key e.0 x.0 here low, behind here es all)

pub above_from : (run : List Entry) (place : ℕ) (key : List ℕ) → Rises run → AllByRecursion (IsNotBelow key) (drop place run)
    → (HasKeyAt run place key → ⊥) → AllAbove key (drop place run)
unfolding IsStrictlySortedBy
above_from run zero key rises high none = above_all run key rises high none
above_from [] (suc place) key rises high none = tt
above_from (e ∷ run) (suc place) key (above, rises) high none = above_from run place key rises high none

-- ---- what is done of a merge, and what is left
-- some groups move from what is left to what is done
pub some_moved : (done old : List Entry) (from place : ℕ) → from ≤ place → done ++ drop from old ≡ (done ++ slice_range old from place)
    ++ drop place old
some_moved done old from place low = ap (λ es. done ++ es) (drop_split old from place low)
    ∙ sym (append_assoc done (slice_range old from place) (drop place old))

drop_none : {X : Type 0} (n : ℕ) → drop {A = X} n [] ≡ []
drop_none zero = refl
drop_none (suc n) = refl

dropped_twice : {X : Type 0} (m n : ℕ) (xs : List X) → drop n (drop m xs) ≡ drop (m + n) xs
dropped_twice zero n xs = let same : 0 + n ≡ n = omega arith in ap (λ k. drop k xs) (sym same)
dropped_twice (suc m) n [] = drop_none n ∙ sym (drop_none (suc m + n))
dropped_twice (suc m) n (x ∷ xs) = let same : suc (m + n) ≡ suc m + n = omega arith in dropped_twice m n xs ∙ ap (λ k. drop k (x ∷ xs)) same

-- a range in two parts
pub range_parts : {X : Type 0} (xs : List X) (from low place : ℕ) → from ≤ low → low ≤ place → slice_range xs from place
    ≡ slice_range xs from low ++ slice_range xs low place
range_parts xs from low place first second =
    let long : place - from ≡ low - from + (place - low) = omega (arith, first, second) in
    let there : from + (low - from) ≡ low = omega (arith, first) in
    ap (λ n. take n (drop from xs)) long
    ∙ take-add (low - from) (place - low) (drop from xs)
    ∙ ap (λ es. slice_range xs from low ++ take (place - low) es) (dropped_twice from (low - from) xs ∙ ap (λ n. drop n xs) there)

-- nothing lies between a place and itself
pub range_none : {X : Type 0} (xs : List X) (n : ℕ) → slice_range xs n n ≡ []
range_none xs n = let none : n - n ≡ 0 = omega arith in ap (λ k. take k (drop n xs)) none

pub range_more : {X : Type 0} (xs : List X) (from place : ℕ) (x : X) → from ≤ place → drop place xs ≡ x ∷ drop (place + 1) xs
    → slice_range xs from (place + 1) ≡ slice_range xs from place ++ x ∷ []
range_more {X = X} xs from place x low left =
    let long : place + 1 - from ≡ place - from + 1 = omega (arith, low) in
    let there : place ≡ from + (place - from) = omega (arith, low) in
    ap (λ n. take n (drop from xs)) long
    ∙ take-add (place - from) 1 (drop from xs)
    ∙ ap (λ es. slice_range xs from place ++ take 1 es) (dropped_twice from (place - from) xs ∙ ap (λ n. drop n xs) (sym there) ∙ left)

-- what is up to a key is below a higher one
up_to_below : (key higher : List ℕ) (e : Entry) → slice_cmp nat_cmp key higher ≡ Less → slice_cmp nat_cmp e.0 key ≢ Greater
    → IsBelow higher e
up_to_below key higher e low up = cases (slice_cmp nat_cmp e.0 key) refl
  where
    cases : (r : Ordering) → slice_cmp nat_cmp e.0 key ≡ r → IsBelow higher e
    cases Less is = key_total.trans e.0 key higher is low
    cases Equal is = key_total.congr e.0 key higher is ∙ low
    cases Greater is = absurd (up is)

pub all_up_to : (key higher : List ℕ) (run : List Entry) → slice_cmp nat_cmp key higher ≡ Less → AreUpTo key run → AllBelow higher run
all_up_to key higher run low all = each_weaker (λ (e : Entry). slice_cmp nat_cmp e.0 key ≢ Greater) (IsBelow higher)
    (λ e. up_to_below key higher e low) run all

less_or_greater : Less ≢ Greater
less_or_greater = λ e. false_is_not_true (sym (ap is_lt e))

pub below_up_to : (key : List ℕ) (run : List Entry) → AllBelow key run → AreUpTo key run
below_up_to key run all = each_weaker (IsBelow key) (λ (e : Entry). slice_cmp nat_cmp e.0 key ≢ Greater)
    (λ e low high. less_or_greater (sym low ∙ high)) run all

pub itself_up_to : (key : List ℕ) → slice_cmp nat_cmp key key ≢ Greater
itself_up_to key high = not_itself key (key_total.antisymm key key ∙ ap ordering_reverse high)

-- keys next to one another in a run
pub keys_next : (run : List Entry) (i : ℕ) (e f : Entry) → Rises run → slice_get run i ≡ Some e → slice_get run (i + 1) ≡ Some f
    → slice_cmp nat_cmp e.0 f.0 ≡ Less
unfolding IsStrictlySortedBy
keys_next [] i e f rises at next = absurd cc
keys_next (x ∷ run) zero e f (above, rises) at next =
    let same : x ≡ e = cc in subst (λ (x : Entry). slice_cmp nat_cmp x.0 f.0 ≡ Less) same (first_above run above next)
  where
    first_above : (es : List Entry) → AllByRecursion (λ z. slice_cmp nat_cmp x.0 z ≡ Less) (packed_keys es) → slice_get es 0 ≡ Some f
        → slice_cmp nat_cmp x.0 f.0 ≡ Less
    first_above [] all next = absurd cc
    first_above (y ∷ es) all next = let same : y ≡ f = cc in subst (λ (y : Entry). slice_cmp nat_cmp x.0 y.0 ≡ Less) same all.0
keys_next (x ∷ run) (suc i) e f (above, rises) at next = keys_next run i e f rises at (ap (slice_get run) (add-one i)
    ∙ ap (slice_get (x ∷ run)) (sym (add-one (suc i))) ∙ next)

pub moves : (done old : List Entry) (from place : ℕ) (key : List ℕ) → AllBelow key done → IsPlaceOf old from key place
    → HasKeyAt old place key → Moves done old from place key
moves done old from place key below is at =
    let here = key_stands old place key at in
    record {
      states = here.states;
      whole = some_moved done old from place is.behind ∙ ap (λ es. (done ++ slice_range old from place) ++ es) here.left;
      front = ap (λ es. done ++ es) (range_more old from place (key, here.states) is.behind here.left)
          ∙ sym (append_assoc done (slice_range old from place) ((key, here.states) ∷ []));
      below = each_append (IsBelow key) done (slice_range old from place) below is.below;
      low = here.low;
    }

pub passes : (done old : List Entry) (from place : ℕ) (key : List ℕ) → Rises old → AllBelow key done → IsPlaceOf old from key place
    → (HasKeyAt old place key → ⊥) → Passes done old from place key
passes done old from place key rises below is none =
    record {
      whole = some_moved done old from place is.behind;
      below = each_append (IsBelow key) done (slice_range old from place) below is.below;
      above = above_from old place key rises is.not_below none;
    }

-- those before a key and it
pub up_to_here : (front back : List Entry) (key states : List ℕ) (place : ℕ) → length front ≡ place → AllBelow key front
    → AreUpTo key (take (place + 1) (front ++ (key, states) ∷ back))
up_to_here front back key states place long below =
    let some : List Entry = front ++ (key, states) ∷ [] in
    let more : place + 1 ≡ length some = let both = length-append front ((key, states) ∷ []) in omega (arith, both, long) in
    subst (AreUpTo key) (sym ((λ i. take (more i) (sym (append_assoc front ((key, states) ∷ []) back) i)) ∙ take-append_seam some back))
    (each_append (λ (e : Entry). slice_cmp nat_cmp e.0 key ≢ Greater) front ((key, states) ∷ []) (below_up_to key front below)
    (itself_up_to key, tt))

-- ---- what a search narrows down
pub place_within : (run : List Entry) (from low high : ℕ) (key : List ℕ) (place : ℕ) → IsBetween run from low high key
    → IsPlaceOf run low key place → IsPlaceOf run from key place
place_within run from low high key place outer inner =
    let first = outer.behind in
    let second = inner.behind in
    record {
      behind = omega (arith, first, second);
      within = inner.within;
      below = subst (AllBelow key) (sym (range_parts run from low place first second)) (each_append (IsBelow key) (slice_range run from low)
          (slice_range run low place) outer.below inner.below);
      not_below = inner.not_below;
    }
