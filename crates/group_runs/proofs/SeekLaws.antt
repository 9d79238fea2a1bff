-- Where a key stands in a segment, and among all groups.
use Rattle.std.specs.Prelude.{◌≡◌, ℕ, ◌+◌, ◌-◌, ◌<◌, ◌≤◌, List, ◌++◌, length, take, drop, Some, slice_get, slice_range}
use Rattle.std.proofs.Common.{sym, ◌∙◌, ap, subst, arith}
use Rattle.std.proofs.lemmas.List.{take-append-le, drop-append-le, length-drop}
use Rattle.std.proofs.Math.Seq.{drop-append-add}
use Rattle.std.specs.List.{AllByRecursion}
use Rattle.group_runs.proofs.Words.{each_append, each_behind, Entry, IsNotBelow, IsPlaceOf, concatenated}
use Rattle.group_runs.specs.Places.{AllBelow}
use Rattle.group_runs.proofs.SegmentLaws.{around, next_start, front_few}
use Rattle.std.proofs.lemmas.Bool.Decides.{nat_tests}
use Rattle.std.proofs.lemmas.Grind.{common_steps}

-- the groups from a place in a segment on, by those of all segments
dropped_in : (segments : List (List Entry)) (at : ℕ) (segment : List Entry) (i place : ℕ) → slice_get segments at ≡ Some segment
    → length (concatenated (take at segments)) + i ≡ place → i ≤ length segment → drop place (concatenated segments) ≡ drop i segment
    ++ concatenated (drop (at + 1) segments)
dropped_in segments at segment i place is long low =
    ap (λ n. drop n (concatenated segments)) (sym long)
    ∙ ap (drop (length (concatenated (take at segments)) + i)) (around segments at segment is)
    ∙ drop-append-add (concatenated (take at segments)) (segment ++ concatenated (drop (at + 1) segments)) i
    ∙ drop-append-le i segment (concatenated (drop (at + 1) segments)) low

pub range_in : (segments : List (List Entry)) (at : ℕ) (segment : List Entry) (i j low place : ℕ) → slice_get segments at ≡ Some segment
    → length (concatenated (take at segments)) + i ≡ low → length (concatenated (take at segments)) + j ≡ place → i ≤ j → j ≤ length segment
    → slice_range (concatenated segments) low place ≡ slice_range segment i j
range_in segments at segment i j low place is first second order within =
    let long = length-drop i segment in
    let same : place - low ≡ j - i = omega (arith, first, second) in
    ap (take (place - low)) (dropped_in segments at segment i low is first (omega (arith, order, within)))
    ∙ ap (λ n. take n (drop i segment ++ concatenated (drop (at + 1) segments))) same
    ∙ take-append-le (j - i) (drop i segment) (concatenated (drop (at + 1) segments)) (omega (arith, long, order, within))

-- a segment in which groups lie is there
pub lies_there : (segments : List (List Entry)) (at low high : ℕ) → length (concatenated (take at segments)) ≤ low → low < high
    → high ≤ length (concatenated segments) → at < length segments
lies_there segments at low high begun some within = grind (arith, nat_tests, common_steps)

-- the place of a key in the segment that it lies in is that among all groups
pub place_in : (segments : List (List Entry)) (at low high : ℕ) (segment : List Entry) (start : ℕ) (key : List ℕ) (i : ℕ)
    → slice_get segments at ≡ Some segment → start ≡ length (concatenated (take at segments)) → start ≤ low → low ≤ high
    → high ≤ length (concatenated (take (at + 1) segments)) → AllByRecursion (IsNotBelow key) (drop high (concatenated segments))
    → IsPlaceOf segment (low - start) key i → IsPlaceOf (concatenated segments) low key (start + i)
place_in segments at low high segment start key i is started begun order ended above place =
    let next = next_start segments at segment is in
    let few = front_few segments (at + 1) in
    let behind = place.behind in
    let within = place.within in
    let rest : AllByRecursion (IsNotBelow key) (concatenated (drop (at + 1) segments)) =
    each_behind (IsNotBelow key) (drop (high - start) segment) (concatenated (drop (at + 1) segments))
    (subst (AllByRecursion (IsNotBelow key)) (dropped_in segments at segment (high - start) high is (omega (arith, started, begun, order))
    (omega (arith, started, begun, order, ended, next))) above) in
    record {
      behind = omega (arith, begun, behind);
      within = omega (arith, started, within, next, few);
      below = subst (AllBelow key) (sym (range_in segments at segment (low - start) i low (start + i) is (omega (arith, started, begun))
          (omega (arith, started)) behind within)) place.below;
      not_below = subst (AllByRecursion (IsNotBelow key))
          (sym (dropped_in segments at segment i (start + i) is (omega (arith, started)) within))
          (each_append (IsNotBelow key) (drop i segment) (concatenated (drop (at + 1) segments)) place.not_below rest);
    }
