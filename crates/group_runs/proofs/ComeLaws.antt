-- Which segments groups come into.
use Rattle.std.specs.Prelude.{◌≡◌, refl, ℕ, ◌+◌, ◌-◌, ◌<◌, ◌≤◌, List, ◌∷◌, length, take, drop, Some, slice_get, slice_range}
use Rattle.std.proofs.Common.{sym, ◌∙◌, ap, subst, arith}
use Rattle.std.proofs.lemmas.List.{take-append-drop, length-append, take_all, drop_all}
use Rattle.std.specs.declared.cmp.Ordering.{Ordering}
use Rattle.std.specs.declared.cmp.Ordering.TheVariants.{Less, Equal, Greater}
use Rattle.std.specs.Ordering.{nat_cmp, ordering_reverse}
use Rattle.std.specs.Cmp.Lexicographic.{slice_cmp}
use Rattle.std.specs.List.{AllByRecursion}
use Rattle.group_runs.proofs.Words.{each_append, each_front, each_weaker, Entry, Rises, IsBelow, IsNotBelow, IsPlaceOf, concatenated}
use Rattle.group_runs.proofs.Words.{IsAmong, AreBefore, ComeInto}
use Rattle.group_runs.specs.Places.{AllBelow}
use Rattle.group_runs.specs.PlaceLaws.{key_total, drop_at, all_at}
use Rattle.group_runs.proofs.JoinLaws.{rises_before}
use Rattle.group_runs.proofs.SegmentLaws.{got, got_low, get_taken, get_dropped, next_start, front_concatenated, back_concatenated}
use Rattle.group_runs.proofs.SegmentLaws.{front_few, concatenated-append}
use Rattle.group_runs.proofs.PartLaws.{taken_parts}

-- ---- keys in order

-- what is not below a key is above each that is below the key
above_below : (key : List ℕ) (x y : Entry) → IsBelow key x → IsNotBelow key y → IsBelow y.0 x
above_below key x y low high = cases (slice_cmp nat_cmp y.0 key) refl
  where
    cases : (r : Ordering) → slice_cmp nat_cmp y.0 key ≡ r → IsBelow y.0 x
    cases Less is = absurd (high is)
    cases Equal is = key_total.antisymm x.0 y.0 ∙ ap ordering_reverse (key_total.congr y.0 key x.0 is) ∙ sym (key_total.antisymm x.0 key)
        ∙ low
    cases Greater is = key_total.trans x.0 key y.0 low (key_total.antisymm key y.0 ∙ ap ordering_reverse is)

-- a key is below what comes behind a group that is not below it
below_next : (key : List ℕ) (x y : Entry) → IsNotBelow key x → slice_cmp nat_cmp x.0 y.0 ≡ Less → slice_cmp nat_cmp key y.0 ≡ Less
below_next key x y high low = cases (slice_cmp nat_cmp x.0 key) refl
  where
    cases : (r : Ordering) → slice_cmp nat_cmp x.0 key ≡ r → slice_cmp nat_cmp key y.0 ≡ Less
    cases Less is = absurd (high is)
    cases Equal is = sym (key_total.congr x.0 key y.0 is) ∙ low
    cases Greater is = key_total.trans key x.0 y.0 (key_total.antisymm key x.0 ∙ ap ordering_reverse is) low

-- what is below a key is before what is not below it
pub before_past : (key : List ℕ) (xs ys : List Entry) → AllBelow key xs → AllByRecursion (IsNotBelow key) ys → AreBefore xs ys
before_past key xs ys below past = each_weaker (IsNotBelow key) (λ (y : Entry). AllBelow y.0 xs)
    (λ y high. each_weaker (IsBelow key) (IsBelow y.0) (λ x low. above_below key x y low high) xs below) ys past

-- what is below the key of a group is before all from there on
pub before_from : (xs run : List Entry) (i : ℕ) (e : Entry) → Rises run → slice_get run i ≡ Some e → AllBelow e.0 xs
    → AreBefore xs (drop i run)
before_from xs run i e rises at below =
    let left : drop i run ≡ e ∷ drop (i + 1) run = drop_at run i e at in
    let behind : AreBefore (take (i + 1) run) (drop (i + 1) run) = rises_before (take (i + 1) run) (drop (i + 1) run)
    (subst Rises (sym (take-append-drop (i + 1) run)) rises) in
    subst (AreBefore xs) (sym left) (
      below,
      each_weaker (λ (y : Entry). AllBelow y.0 (take (i + 1) run)) (λ (y : Entry). AllBelow y.0 xs)
          (λ y all. each_weaker (IsBelow e.0) (IsBelow y.0)
          (λ x low. key_total.trans x.0 e.0 y.0 low (all_at (IsBelow y.0) (take (i + 1) run) i e all (taken_at run i e at))) xs below)
          (drop (i + 1) run) behind,
    )
  where
    taken_at : (run : List Entry) (i : ℕ) (e : Entry) → slice_get run i ≡ Some e → slice_get (take (i + 1) run) i ≡ Some e
    taken_at run i e at = get_taken run (i + 1) i (omega arith) ∙ at

-- those before a group are below its key
pub below_here : (run : List Entry) (i : ℕ) (e : Entry) → Rises run → slice_get run i ≡ Some e → AllBelow e.0 (take i run)
below_here run i e rises at =
    let all : AreBefore (take i run) (drop i run) = rises_before (take i run) (drop i run)
    (subst Rises (sym (take-append-drop i run)) rises) in
    (subst (AreBefore (take i run)) (drop_at run i e at) all).0

-- one group of a run is below a later one
rising_pair : (run : List Entry) (i j : ℕ) (x y : Entry) → Rises run → i < j → slice_get run i ≡ Some x → slice_get run j ≡ Some y
    → slice_cmp nat_cmp x.0 y.0 ≡ Less
rising_pair run i j x y rises low at there = all_at (IsBelow y.0) (take j run) i x (below_here run j y rises there) (get_taken run j i low
    ∙ at)

-- ---- where segments begin

pub starts_rise : (segments : List (List Entry)) (i j : ℕ) → i ≤ j
    → length (concatenated (take i segments)) ≤ length (concatenated (take j segments))
starts_rise segments i j low =
    let both = ap length (ap concatenated (taken_parts segments i j low) ∙ concatenated-append (take i segments) (slice_range segments i j))
    ∙ length-append (concatenated (take i segments)) (concatenated (slice_range segments i j)) in
    omega (arith, both)

-- the segment of a key: no group before it is above the key, and none behind it is up to the key
pub record IsFor (segments : List (List Entry)) (first : ℕ) (key : List ℕ) (at : ℕ) : Type 0 where
  pub segment : List Entry
  pub is : slice_get segments at ≡ Some segment
  pub order : first ≤ at
  pub low : AllBelow key (concatenated (take at segments))
  pub high : (e : Entry) → slice_get (concatenated segments) (length (concatenated (take (at + 1) segments))) ≡ Some e
      → slice_cmp nat_cmp key e.0 ≡ Less

-- all groups up to the place of a key are below it
below_place : (segments : List (List Entry)) (first start : ℕ) (key : List ℕ) (place : ℕ) → start
    ≡ length (concatenated (take first segments)) → AllBelow key (concatenated (take first segments))
    → IsPlaceOf (concatenated segments) start key place → AllBelow key (take place (concatenated segments))
below_place segments first start key place started before is =
    subst (AllBelow key) (sym (taken_parts (concatenated segments) start place is.behind))
    (each_append (IsBelow key) (take start (concatenated segments)) (slice_range (concatenated segments) start place)
    (subst (AllBelow key) (sym (ap (λ n. take n (concatenated segments)) started ∙ front_concatenated segments first)) before) is.below)

front_below : (segments : List (List Entry)) (at place : ℕ) (key : List ℕ) → length (concatenated (take at segments)) ≤ place
    → AllBelow key (take place (concatenated segments)) → AllBelow key (concatenated (take at segments))
front_below segments at place key low below =
    let n : ℕ = length (concatenated (take at segments)) in
    subst (AllBelow key) (front_concatenated segments at)
    (each_front (IsBelow key) (take n (concatenated segments)) (slice_range (concatenated segments) n place)
    (subst (AllBelow key) (taken_parts (concatenated segments) n place low) below))

-- the segment of the place of a key
pub for_place : (segments : List (List Entry)) (first start : ℕ) (key : List ℕ) (place at : ℕ) → Rises (concatenated segments) → start
    ≡ length (concatenated (take first segments)) → AllBelow key (concatenated (take first segments))
    → IsPlaceOf (concatenated segments) start key place → place < length (concatenated segments) → IsAmong segments place at
    → IsFor segments first key at
for_place segments first start key place at rises started before is within among =
    let behind = is.behind in
    let here = among.behind in
    let past = among.within in
    let next = next_start segments at among.segment among.is in
    let no : at + 1 ≤ first → ⊥ = λ low. let more = starts_rise segments (at + 1) first low in omega
    (arith, more, next, past, behind, started) in
    let found = got (concatenated segments) place within in
    record {
      segment = among.segment;
      is = among.is;
      order = omega (arith, no);
      low = front_below segments at place key here (below_place segments first start key place started before is);
      high = λ e at_end. below_next key found.0 e
          (subst (AllByRecursion (IsNotBelow key)) (drop_at (concatenated segments) place found.0 found.1) is.not_below).0
          (rising_pair (concatenated segments) place (length (concatenated (take (at + 1) segments))) found.0 e rises
          (omega (arith, next, past)) found.1 at_end);
    }

-- where all groups are below a key, that is the last segment
pub for_last : (segments : List (List Entry)) (first start : ℕ) (key : List ℕ) (place at : ℕ) → start
    ≡ length (concatenated (take first segments)) → AllBelow key (concatenated (take first segments))
    → IsPlaceOf (concatenated segments) start key place → length (concatenated segments) ≤ place → first < length segments → at + 1
    ≡ length segments → IsFor segments first key at
for_last segments first start key place at started before is past there last =
    let found = got segments at (omega (arith, last)) in
    let few = front_few segments at in
    record {
      segment = found.0;
      is = found.1;
      order = omega (arith, there, last);
      low = front_below segments at place key (omega (arith, few, past)) (below_place segments first start key place started before is);
      high =
          λ e at_end.
          let low = got_low (concatenated segments) (length (concatenated (take (at + 1) segments))) e at_end in
          let all = ap (λ cs. length (concatenated cs)) (take_all (at + 1) segments (omega (arith, last))) in
          absurd (omega (arith, low, all));
    }

module _ (segments : List (List Entry)) (first at : ℕ) (more : List Entry) (from : ℕ) (e : Entry) (rises : Rises (concatenated segments))
    (up : Rises more) (here : slice_get more from ≡ Some e) (for : IsFor segments first e.0 at) where
  -- what comes in is what is below the key behind the segment
  pub comes_up_to : (end : ℕ) (next : Entry) (to : ℕ) → end ≡ length (concatenated (take (at + 1) segments))
      → slice_get (concatenated segments) end ≡ Some next → IsPlaceOf more 0 next.0 to → ComeInto segments first more from at to
  comes_up_to end next to ended at_end is =
      let below : AllBelow next.0 (take to more) = let same : to - 0 ≡ to = omega arith in subst (λ n. AllBelow next.0 (take n more)) same
      is.below in
      let no : to ≤ from → ⊥ =
      λ low. all_at (IsNotBelow next.0) (drop to more) (from - to) e is.not_below (get_dropped more to (from - to) from (omega (arith, low))
      ∙ here) (for.high next (ap (slice_get (concatenated segments)) (sym ended) ∙ at_end)) in
      let low = got_low (concatenated segments) end next at_end in
      let last : length segments ≤ at + 1 → ⊥ = λ past. let all = ap (λ cs. length (concatenated cs)) (take_all (at + 1) segments past) in
      omega (arith, low, ended, all) in
      record {
        segment = for.segment;
        is = for.is;
        order = for.order;
        some = omega (arith, no);
        within = is.within;
        before = before_from (concatenated (take at segments)) more from e up here for.low;
        behind = subst (AreBefore (take to more)) (ap (λ n. drop n (concatenated segments)) ended ∙ back_concatenated segments (at + 1))
            (before_from (take to more) (concatenated segments) end next rises at_end below);
        beyond = before_past next.0 (concatenated (take (at + 1) segments)) (drop to more)
            (subst (AllBelow next.0) (ap (λ n. take n (concatenated segments)) ended ∙ front_concatenated segments (at + 1))
            (below_here (concatenated segments) end next rises at_end)) is.not_below;
        left = λ _. omega (arith, last);
      }

  -- all comes into the last segment that has groups
  pub comes_all : (end : ℕ) → end ≡ length (concatenated (take (at + 1) segments)) → length (concatenated segments) ≤ end
      → ComeInto segments first more from at (length more)
  comes_all end ended past =
      record {
        segment = for.segment;
        is = for.is;
        order = for.order;
        some = got_low more from e here;
        within = omega arith;
        before = before_from (concatenated (take at segments)) more from e up here for.low;
        behind = subst (AreBefore (take (length more) more)) (sym (drop_all end (concatenated segments) past)
            ∙ ap (λ n. drop n (concatenated segments)) ended ∙ back_concatenated segments (at + 1)) tt;
        beyond = subst (AreBefore (concatenated (take (at + 1) segments))) (sym (drop_all (length more) more (omega arith))) tt;
        left = λ low. absurd (omega (arith, low));
      }
