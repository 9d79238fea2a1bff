-- Runs in segments.
use Rattle.std.specs.Prelude.{◌≡◌, refl, ℕ, zero, suc, ◌+◌, ◌-◌, ◌<◌, ◌≤◌, List, [], ◌∷◌, ◌++◌, length, take, drop, Some, slice_get}
use Rattle.std.specs.Prelude.{slice_set, slice_index_or, slice_range}
use Rattle.std.proofs.Common.{sym, ◌∙◌, ap, subst, arith, append_assoc, append-nil}
use Rattle.std.proofs.lemmas.List.{take-append-drop, length-append, length-take, length-set, take_all}
use Rattle.std.proofs.lemmas.List.Sums.{sum_by-append}
use Rattle.std.proofs.Math.Nat.{zero-add}
use Rattle.std.proofs.lemmas.Grind.{flat_map-append, common_steps}
use Rattle.std.proofs.Math.Seq.{take-append_seam, drop-append_seam}
use Rattle.std.specs.List.Sorted.{IsStrictlySortedBy}
use Rattle.packed_rows.specs.ConcatenatedRowsLaws.{ends_long, ends_append}
use Rattle.group_runs.proofs.Words.{Function, Entry, Rises, HasStatesFor, CombinesAt, concatenated, AreSegments, IsAmong, replaced}
use Rattle.group_runs.proofs.Words.{ArePiecesOf, AreCut, cut_count}
use Rattle.packed_rows.specs.ConcatenatedRows.{ends_of}
use Rattle.group_runs.specs.PlaceLaws.{drop_at, take_found}
use Rattle.group_runs.proofs.PlaceLaws.{rises_drop}
use Rattle.group_runs.proofs.RunLaws.{run_front_rises}
use Rattle.std.proofs.lemmas.Bool.Decides.{nat_tests}

-- ---- lists

-- a member that is there
pub got : {X : Type 0} (xs : List X) (i : ℕ) → i < length xs → (x : X) × (slice_get xs i ≡ Some x)
got [] i low = absurd (omega arith)
got (x ∷ xs) zero low = (x, refl)
got (x ∷ xs) (suc i) low = got xs i (omega arith)

pub got_same : {X : Type 0} (xs : List X) (i : ℕ) (x y : X) → slice_get xs i ≡ Some x → slice_get xs i ≡ Some y → x ≡ y
got_same xs i x y one other = let both : Some x ≡ Some y = sym one ∙ other in cc

pub got_low : {X : Type 0} (xs : List X) (i : ℕ) (x : X) → slice_get xs i ≡ Some x → i < length xs
got_low [] i x at = absurd cc
got_low (y ∷ xs) zero x at = omega arith
got_low (y ∷ xs) (suc i) x at = let rest : i < length xs = got_low xs i x at in omega (arith, rest)

-- a member that was read
pub got_by : {X : Type 0} (xs : List X) (i : ℕ) (x : X) → i < length xs → x ≡ slice_index_or xs i x → slice_get xs i ≡ Some x
got_by [] i x low is = absurd (omega arith)
got_by (y ∷ xs) zero x low is = ap Some (sym is)
got_by (y ∷ xs) (suc i) x low is = got_by xs i x (omega arith) is

pub get_front : {X : Type 0} (xs ys : List X) (i : ℕ) → i < length xs → slice_get (xs ++ ys) i ≡ slice_get xs i
get_front [] ys i low = absurd (omega arith)
get_front (x ∷ xs) ys zero low = refl
get_front (x ∷ xs) ys (suc i) low = get_front xs ys i (omega arith)

pub get_behind : {X : Type 0} (xs ys : List X) (i n : ℕ) → length xs + n ≡ i → slice_get (xs ++ ys) i ≡ slice_get ys n
get_behind [] ys i n long = let same : i ≡ n = omega (arith, long) in ap (slice_get ys) same
get_behind (x ∷ xs) ys zero n long = absurd (omega (arith, long))
get_behind (x ∷ xs) ys (suc i) n long = get_behind xs ys i n (omega (arith, long))

pub get_taken : {X : Type 0} (xs : List X) (n i : ℕ) → i < n → slice_get (take n xs) i ≡ slice_get xs i
get_taken xs zero i low = absurd (omega (arith, low))
get_taken [] (suc n) i low = refl
get_taken (x ∷ xs) (suc n) zero low = refl
get_taken (x ∷ xs) (suc n) (suc i) low = get_taken xs n i (omega (arith, low))

pub get_dropped : {X : Type 0} (xs : List X) (from i n : ℕ) → from + i ≡ n → slice_get (drop from xs) i ≡ slice_get xs n
get_dropped xs zero i n long = let same : i ≡ n = omega (arith, long) in ap (slice_get xs) same
get_dropped xs (suc from) i zero long = absurd (omega (arith, long))
get_dropped [] (suc from) i (suc n) long = refl
get_dropped (x ∷ xs) (suc from) i (suc n) long = get_dropped xs from i n (omega (arith, long))

-- a member of what lies from a place to another
pub get_range : {X : Type 0} (xs : List X) (from to i : ℕ) (x : X) → slice_get xs (from + i) ≡ Some x → i < to - from
    → slice_get (slice_range xs from to) i ≡ Some x
get_range xs from to i x at low = get_taken (drop from xs) (to - from) i low ∙ get_dropped xs from i (from + i) refl ∙ at

pub range_long : {X : Type 0} (xs : List X) (from to : ℕ) → from ≤ to → to ≤ length xs → length (slice_range xs from to) ≡ to - from
range_long {X = X} xs from to order within = grind (arith, nat_tests, common_steps)

-- a list by a member of it
pub split_at : {X : Type 0} (xs : List X) (i : ℕ) (x : X) → slice_get xs i ≡ Some x → xs ≡ take i xs ++ x ∷ drop (i + 1) xs
split_at xs i x at = sym (take-append-drop i xs) ∙ ap (λ ys. take i xs ++ ys) (drop_at xs i x at)

-- another in the place of a member
pub set_between : {X : Type 0} (xs ys : List X) (x y : X) (n : ℕ) → length xs ≡ n → slice_set (xs ++ x ∷ ys) n y ≡ xs ++ y ∷ ys
set_between [] ys x y zero long = refl
set_between [] ys x y (suc n) long = absurd (omega (arith, long))
set_between (z ∷ xs) ys x y zero long = absurd (omega (arith, long))
set_between (z ∷ xs) ys x y (suc n) long = ap (λ zs. z ∷ zs) (set_between xs ys x y n (omega (arith, long)))

pub set_at : {X : Type 0} (xs : List X) (i : ℕ) (x y : X) → slice_get xs i ≡ Some x → slice_set xs i y ≡ take i xs ++ y ∷ drop (i + 1) xs
set_at xs i x y at =
    let low = got_low xs i x at in
    let long = length-take i xs in
    ap (λ zs. slice_set zs i y) (split_at xs i x at)
    ∙ set_between (take i xs) (drop (i + 1) xs) x y i (omega (arith, low, long))

-- a list in two ways, of which one has the longer front
pub record Longer {X : Type 0} (xs ys zs ws : List X) : Type 0 where
  pub between : List X
  pub front : zs ≡ xs ++ between
  pub back : ys ≡ between ++ ws

pub longer : {X : Type 0} (xs ys zs ws : List X) → xs ++ ys ≡ zs ++ ws → length xs ≤ length zs → Longer xs ys zs ws
longer [] ys zs ws same low = record { between = zs; front = refl; back = same }
longer (x ∷ xs) ys [] ws same low = absurd (omega (arith, low))
longer (x ∷ xs) ys (z ∷ zs) ws same low =
    let first : x ≡ z = cc in
    let rest = longer xs ys zs ws (cc) (omega (arith, low)) in
    record { between = rest.between; front = λ i. sym first i ∷ rest.front i; back = rest.back }

-- ---- where segments end

count_behind : (before : ℕ) (segments : List (List Entry)) (i : ℕ) → i ≤ length segments
    → slice_index_or (before ∷ ends_of before segments) i 0 ≡ before + length (concatenated (take i segments))
count_behind before segments zero low = omega arith
count_behind before [] (suc i) low = absurd (omega (arith, low))
count_behind before (segment ∷ segments) (suc i) low =
    let one : length (segment ++ concatenated (take i segments)) ≡ length segment
    + length (concatenated (take i segments)) = length-append segment (concatenated (take i segments)) in
    let same : before + length segment + length (concatenated (take i segments)) ≡ before
    + length (segment ++ concatenated (take i segments)) = omega (arith, one) in
    count_behind (before + length segment) segments i (omega (arith, low)) ∙ same

-- how many groups there are in the first segments
pub start_is : (segments : List (List Entry)) (ends : List ℕ) (i : ℕ) → ends ≡ ends_of 0 segments → i ≤ length segments
    → slice_index_or (0 ∷ ends) i 0 ≡ length (concatenated (take i segments))
start_is segments ends i are low =
    let none : 0 + length (concatenated (take i segments)) ≡ length (concatenated (take i segments)) = omega arith in
    ap (λ ends. slice_index_or (0 ∷ ends) i 0) are ∙ count_behind 0 segments i low ∙ none

pub ends_many : (segments : List (List Entry)) (ends : List ℕ) → ends ≡ ends_of 0 segments → length ends ≡ length segments
ends_many segments ends are = ap length are ∙ ends_long 0 segments

-- in all of them
pub whole_is : (segments : List (List Entry)) (ends : List ℕ) → ends ≡ ends_of 0 segments → slice_index_or (0 ∷ ends) (length ends) 0
    ≡ length (concatenated segments)
whole_is segments ends are =
    ap (λ n. slice_index_or (0 ∷ ends) n 0) (ends_many segments ends are)
    ∙ start_is segments ends (length segments) are (omega arith)
    ∙ ap (λ cs. length (concatenated cs)) (take_all (length segments) segments (omega arith))

pub concatenated-append : (segments more : List (List Entry)) → concatenated (segments ++ more) ≡ concatenated segments ++ concatenated more
concatenated-append segments more = flat_map-append (λ (segment : List Entry). segment) segments more

pub concatenated-push : (segments : List (List Entry)) (segment : List Entry) → concatenated (segments ++ segment ∷ [])
    ≡ concatenated segments ++ segment
concatenated-push segments segment = concatenated-append segments (segment ∷ [])
    ∙ ap (λ es. concatenated segments ++ es) (append-nil segment)

-- the groups by those of one segment
pub around : (segments : List (List Entry)) (at : ℕ) (segment : List Entry) → slice_get segments at ≡ Some segment → concatenated segments
    ≡ concatenated (take at segments) ++ (segment ++ concatenated (drop (at + 1) segments))
around segments at segment is = ap concatenated (split_at segments at segment is)
    ∙ concatenated-append (take at segments) (segment ∷ drop (at + 1) segments)

pub next_concatenated : (segments : List (List Entry)) (at : ℕ) (segment : List Entry) → slice_get segments at ≡ Some segment
    → concatenated (take (at + 1) segments) ≡ concatenated (take at segments) ++ segment
next_concatenated segments at segment is = ap concatenated (take_found segments at segment is)
    ∙ concatenated-push (take at segments) segment

pub next_start : (segments : List (List Entry)) (at : ℕ) (segment : List Entry) → slice_get segments at ≡ Some segment
    → length (concatenated (take (at + 1) segments)) ≡ length (concatenated (take at segments)) + length segment
next_start segments at segment is = ap length (next_concatenated segments at segment is)
    ∙ length-append (concatenated (take at segments)) segment

-- the front of the segments has the front of the groups
pub front_concatenated : (segments : List (List Entry)) (i : ℕ) → take (length (concatenated (take i segments))) (concatenated segments)
    ≡ concatenated (take i segments)
front_concatenated segments i =
    ap (take (length (concatenated (take i segments)))) (ap concatenated (sym (take-append-drop i segments))
    ∙ concatenated-append (take i segments) (drop i segments))
    ∙ take-append_seam (concatenated (take i segments)) (concatenated (drop i segments))

pub back_concatenated : (segments : List (List Entry)) (i : ℕ) → drop (length (concatenated (take i segments))) (concatenated segments)
    ≡ concatenated (drop i segments)
back_concatenated segments i =
    ap (drop (length (concatenated (take i segments)))) (ap concatenated (sym (take-append-drop i segments))
    ∙ concatenated-append (take i segments) (drop i segments))
    ∙ drop-append_seam (concatenated (take i segments)) (concatenated (drop i segments))

pub front_few : (segments : List (List Entry)) (i : ℕ) → length (concatenated (take i segments)) ≤ length (concatenated segments)
front_few segments i =
    let whole = ap length (ap concatenated (sym (take-append-drop i segments)) ∙ concatenated-append (take i segments) (drop i segments)) in
    let both = length-append (concatenated (take i segments)) (concatenated (drop i segments)) in
    omega (arith, whole, both)

-- where there are groups there is a segment
pub some_end : (segments : List (List Entry)) (ends : List ℕ) (place : ℕ) → ends ≡ ends_of 0 segments
    → place < length (concatenated segments) → 0 < length ends
some_end [] ends place are low = absurd (omega (arith, low))
some_end (segment ∷ segments) ends place are low = let many = ends_many (segment ∷ segments) ends are in omega (arith, many)

-- no segments
pub none_are : (segments : List (List Entry)) (ends : List ℕ) → segments ≡ [] → ends ≡ [] → AreSegments segments ends
unfolding IsStrictlySortedBy
none_are segments ends none e = record {
  ends_are = e ∙ ap (ends_of 0) (sym none);
  rises = subst (λ cs. Rises (concatenated cs)) (sym none)
      tt;
}

-- the segment that was found
pub among : (segments : List (List Entry)) (ends : List ℕ) (place at : ℕ) → ends ≡ ends_of 0 segments → at < length ends
    → slice_index_or (0 ∷ ends) at 0 ≤ place → place < slice_index_or (0 ∷ ends) (at + 1) 0 → IsAmong segments place at
among segments ends place at are there behind within =
    let many = ends_many segments ends are in
    let found = got segments at (omega (arith, there, many)) in
    let here = start_is segments ends at are (omega (arith, there, many)) in
    let next = start_is segments ends (at + 1) are (omega (arith, there, many)) in
    let long = next_start segments at found.0 found.1 in
    record { segment = found.0; is = found.1; behind = omega (arith, here, behind); within = omega (arith, next, long, within) }

-- the group at a place
pub group_in : (segments : List (List Entry)) (place at : ℕ) (segment : List Entry) (n : ℕ) → slice_get segments at ≡ Some segment
    → length (concatenated (take at segments)) + n ≡ place → n < length segment → slice_get (concatenated segments) place
    ≡ slice_get segment n
group_in segments place at segment n is long low =
    ap (λ es. slice_get es place) (around segments at segment is)
    ∙ get_behind (concatenated (take at segments)) (segment ++ concatenated (drop (at + 1) segments)) place n long
    ∙ get_front segment (concatenated (drop (at + 1) segments)) n low

-- ---- more groups

-- one segment more
pub pushed_segment : (segments : List (List Entry)) (ends : List ℕ) (segment : List Entry) (end : ℕ) → ends ≡ ends_of 0 segments → end
    ≡ length (concatenated segments) + length segment → ends ++ end ∷ [] ≡ ends_of 0 (segments ++ segment ∷ [])
pushed_segment segments ends segment end are is =
    let same : end ≡ 0 + length (concatenated segments) + length segment = omega (arith, is) in
    (λ i. are i ++ same i ∷ []) ∙ sym (ends_append 0 segments (segment ∷ []))

pub more_are : (segments segments' : List (List Entry)) (ends ends' : List ℕ) (segment : List Entry) (end : ℕ) → AreSegments segments ends
    → segments' ≡ segments ++ segment ∷ [] → ends' ≡ ends ++ end ∷ [] → end ≡ length (concatenated segments) + length segment
    → Rises (concatenated segments ++ segment) → AreSegments segments' ends'
more_are segments segments' ends ends' segment end are more ends_more is rises =
    record {
      ends_are = ends_more ∙ pushed_segment segments ends segment end are.ends_are is ∙ ap (ends_of 0) (sym more);
      rises = subst Rises (sym (ap concatenated more ∙ concatenated-push segments segment)) rises;
    }

-- the last segment with one group more
pub record LastMore (segments' : List (List Entry)) (ends' : List ℕ) (run : List Entry) : Type 0 where
  pub ends_are : ends' ≡ ends_of 0 segments'
  pub is : concatenated segments' ≡ run

pub last_whole : (segments : List (List Entry)) (last : ℕ) (segment : List Entry) → length segments ≡ last + 1 → slice_get segments last
    ≡ Some segment → concatenated segments ≡ concatenated (take last segments) ++ segment
last_whole segments last segment many is = ap concatenated (sym (take_all (last + 1) segments (omega (arith, many))))
    ∙ next_concatenated segments last segment is

pub last_more : (segments : List (List Entry)) (ends : List ℕ) (last : ℕ) (segment more : List Entry) (end : ℕ) → ends ≡ ends_of 0 segments
    → length segments ≡ last + 1 → slice_get segments last ≡ Some segment → end ≡ length (concatenated segments) + length more
    → LastMore (slice_set segments last (segment ++ more)) (slice_set ends last end) (concatenated segments ++ more)
last_more segments ends last segment more end are many is counted =
    let front : List (List Entry) = take last segments in
    let all : segments ≡ front ++ segment ∷ [] = sym (take_all (last + 1) segments (omega (arith, many)))
    ∙ take_found segments last segment is in
    let long = length-take last segments in
    let taken : length front ≡ last = omega (arith, long, many) in
    let new : slice_set segments last (segment ++ more) ≡ front ++ (segment ++ more)
    ∷ [] = ap (λ cs. slice_set cs last (segment ++ more)) all ∙ set_between front [] segment (segment ++ more) last taken in
    let old_ends : ends ≡ ends_of 0 front ++ (0 + length (concatenated front) + length segment) ∷ [] = are ∙ ap (ends_of 0) all
    ∙ ends_append 0 front (segment ∷ []) in
    let new_ends : slice_set ends last end ≡ ends_of 0 front ++ end ∷ [] =
    ap (λ es. slice_set es last end) old_ends ∙ set_between (ends_of 0 front) [] (0 + length (concatenated front) + length segment) end last
    (ends_long 0 front ∙ taken) in
    let whole = ap length (last_whole segments last segment many is) ∙ length-append (concatenated front) segment in
    let both = length-append segment more in
    let same : end ≡ 0 + length (concatenated front) + length (segment ++ more) = omega (arith, counted, whole, both) in
    record {
      ends_are = new_ends ∙ ap (λ n. ends_of 0 front ++ n ∷ []) same ∙ sym (ends_append 0 front ((segment ++ more) ∷ []))
          ∙ ap (ends_of 0) (sym new);
      is = ap concatenated new ∙ concatenated-push front (segment ++ more) ∙ sym (append_assoc (concatenated front) segment more)
          ∙ ap (λ es. es ++ more) (sym (last_whole segments last segment many is));
    }

-- another segment in the place of one that has as many groups
same_counts : (before : ℕ) (front back : List (List Entry)) (segment new : List Entry) → length new ≡ length segment
    → ends_of before (front ++ new ∷ back) ≡ ends_of before (front ++ segment ∷ back)
same_counts before [] back segment new long = λ i. (before + long i) ∷ ends_of (before + long i) back
same_counts before (one ∷ front) back segment new long = ap (λ ns. (before + length one)
    ∷ ns) (same_counts (before + length one) front back segment new long)

pub set_counts : (segments : List (List Entry)) (at : ℕ) (segment new : List Entry) → slice_get segments at ≡ Some segment → length new
    ≡ length segment → ends_of 0 (slice_set segments at new) ≡ ends_of 0 segments
set_counts segments at segment new is long =
    ap (ends_of 0) (set_at segments at segment new is)
    ∙ same_counts 0 (take at segments) (drop (at + 1) segments) segment new long
    ∙ ap (ends_of 0) (sym (split_at segments at segment is))

pub set_concatenated : (segments : List (List Entry)) (at : ℕ) (segment new : List Entry) → slice_get segments at ≡ Some segment
    → concatenated (slice_set segments at new) ≡ concatenated (take at segments) ++ (new ++ concatenated (drop (at + 1) segments))
set_concatenated segments at segment new is = ap concatenated (set_at segments at segment new is)
    ∙ concatenated-append (take at segments) (new ∷ drop (at + 1) segments)

-- ---- states that are combined in one segment

-- a group of a run by its segment
pub record InSegment (front : List Entry) (entry : Entry) (back before segment behind : List Entry) : Type 0 where
  pub front' : List Entry
  pub back' : List Entry
  pub front_is : front ≡ before ++ front'
  pub segment_is : segment ≡ front' ++ entry ∷ back'
  pub back_is : back ≡ back' ++ behind

pub in_segment : (front : List Entry) (entry : Entry) (back before segment behind : List Entry) → before ++ (segment ++ behind) ≡ front
    ++ entry ∷ back → length before ≤ length front → length front < length before + length segment
    → InSegment front entry back before segment behind
in_segment front entry back before segment behind same low high =
    let first = longer before (segment ++ behind) front (entry ∷ back) same low in
    let long = ap length first.front ∙ length-append before first.between in
    let second = longer first.between (entry ∷ back) segment behind (sym first.back) (omega (arith, long, high)) in
    rest first.between first.front second.between second.front second.back (let all = ap length second.front
    ∙ length-append first.between second.between in omega (arith, long, high, all))
  where
    rest : (front' : List Entry) → front ≡ before ++ front' → (between : List Entry) → segment ≡ front' ++ between → entry ∷ back ≡ between
        ++ behind → 0 < length between → InSegment front entry back before segment behind
    rest front' f [] c b some = absurd (omega (arith, some))
    rest front' f (e ∷ between) c b some =
        let here : e ≡ entry = cc in
        record {
          front' = front';
          back' = between;
          front_is = f;
          segment_is = c
              ∙ ap (λ (e : Entry). front' ++ e ∷ between) here;
          back_is = cc;
        }

pub states_in : (these : List Function) (segments : List (List Entry)) (place at : ℕ) (segment : List Entry) (n : ℕ) (more : List ℕ)
    → slice_get segments at ≡ Some segment → length (concatenated (take at segments)) + n ≡ place → n < length segment
    → HasStatesFor these (concatenated segments) place more → HasStatesFor these segment n more
states_in these segments place at segment n more is long low has =
    let at_front = has.long in
    let here = in_segment has.front has.entry has.back (concatenated (take at segments)) segment (concatenated (drop (at + 1) segments))
    (sym (around segments at segment is) ∙ has.is) (omega (arith, long, at_front)) (omega (arith, long, low, at_front)) in
    let whole = ap length here.front_is ∙ length-append (concatenated (take at segments)) here.front' in
    record {
      front = here.front';
      entry = has.entry;
      back = here.back';
      is = here.segment_is;
      long = omega (arith, whole, long, at_front);
      room = has.room;
    }

pub combined_in : (these : List Function) (segments : List (List Entry)) (place at : ℕ) (segment new : List Entry) (n : ℕ) (more : List ℕ)
    → slice_get segments at ≡ Some segment → length (concatenated (take at segments)) + n ≡ place → n < length segment
    → CombinesAt these segment n more new → CombinesAt these (concatenated segments) place more (concatenated (slice_set segments at new))
combined_in these segments place at segment new n more is long low combines =
    λ front entry back whole at_front.
    let here = in_segment front entry back (concatenated (take at segments)) segment (concatenated (drop (at + 1) segments))
    (sym (around segments at segment is) ∙ whole) (omega (arith, long, at_front)) (omega (arith, long, low, at_front)) in
    let all = ap length here.front_is ∙ length-append (concatenated (take at segments)) here.front' in
    let given = combines here.front' entry here.back' here.segment_is (omega (arith, all, long, at_front)) in (
      given.0,
      set_concatenated segments at segment new is
          ∙ ap (λ es. concatenated (take at segments) ++ (es ++ concatenated (drop (at + 1) segments))) given.1
          ∙ ap (λ es. concatenated (take at segments) ++ es) (append_assoc here.front' ((entry.0, given.0) ∷ here.back')
          (concatenated (drop (at + 1) segments)))
          ∙ sym (append_assoc (concatenated (take at segments)) here.front' ((entry.0, given.0)
          ∷ (here.back' ++ concatenated (drop (at + 1) segments))))
          ∙ (λ i. sym here.front_is i ++ (entry.0, given.0) ∷ sym here.back_is i),
      given.2,
    )

-- ---- segments in the place of others

pub replaced_more : (fresh : List (ℕ × List Entry)) (one : ℕ × List Entry) (segments : List (List Entry))
    → replaced (fresh ++ one ∷ []) segments ≡ replaced fresh (slice_set segments one.0 one.1)
replaced_more [] one segments = refl
replaced_more (two ∷ fresh) one segments = ap (λ cs. slice_set cs two.0 two.1) (replaced_more fresh one segments)

pub replaced_long : (fresh : List (ℕ × List Entry)) (segments : List (List Entry)) → length (replaced fresh segments) ≡ length segments
replaced_long [] segments = refl
replaced_long (one ∷ fresh) segments = length-set (replaced fresh segments) one.0 one.1 ∙ replaced_long fresh segments

-- ---- segments that are cut

-- what has the groups of a segment is pieces of it
pub are_pieces : (segment : List Entry) (pieces : List (List Entry)) → concatenated pieces ≡ segment → ArePiecesOf segment pieces
are_pieces segment [] same = tt
are_pieces segment (piece ∷ pieces) same = same

-- where there are pieces, they have its groups
pub pieces_make : (segment : List Entry) (pieces : List (List Entry)) → 0 < length pieces → ArePiecesOf segment pieces
    → concatenated pieces ≡ segment
pieces_make segment [] some are = absurd (omega (arith, some))
pieces_make segment (piece ∷ pieces) some are = are

-- one segment more
pub cut_more : (segments : List (List Entry)) (cuts : List (List (List Entry))) (segment : List Entry) (pieces : List (List Entry))
    → AreCut segments cuts → ArePiecesOf segment pieces → AreCut (segments ++ segment ∷ []) (cuts ++ pieces ∷ [])
cut_more [] [] segment pieces cut are = (are, tt)
cut_more [] (one ∷ cuts) segment pieces cut are = absurd cut
cut_more (s ∷ segments) [] segment pieces cut are = absurd cut
cut_more (s ∷ segments) (one ∷ cuts) segment pieces cut are = (cut.0, cut_more segments cuts segment pieces cut.1 are)

pub cut_count_more : (cuts : List (List (List Entry))) (pieces : List (List Entry))
    → cut_count (cuts ++ pieces ∷ []) ≡ cut_count cuts + (length pieces + 1)
cut_count_more cuts pieces =
    sum_by-append (λ (pieces : List (List Entry)). length pieces + 1) cuts (pieces ∷ [])
    ∙ ap (λ n. cut_count cuts + n) (zero-add (length pieces + 1))

-- the first of them, where something is cut
pub cut_first : (segments : List (List Entry)) (pieces : List (List Entry)) (cuts : List (List (List Entry)))
    → AreCut segments (pieces ∷ cuts)
    → (segment : List Entry) × (rest : List (List Entry)) × (segments ≡ segment ∷ rest) × ArePiecesOf segment pieces × AreCut rest cuts
cut_first [] pieces cuts cut = absurd cut
cut_first (segment ∷ rest) pieces cuts cut = (segment, rest, refl, cut.0, cut.1)

pub none_long : {X : Type 0} (xs : List X) → length xs ≡ 0 → xs ≡ []
none_long [] none = refl
none_long (x ∷ xs) none = absurd (omega (arith, none))

pub cut_none : (segments : List (List Entry)) → AreCut segments [] → segments ≡ []
cut_none [] cut = refl
cut_none (segment ∷ rest) cut = absurd cut

-- ---- keys that rise

pub rises_back : (run more : List Entry) → Rises (run ++ more) → Rises more
rises_back run more rises = subst Rises (drop-append_seam run more) (rises_drop (length run) (run ++ more) rises)

pub range_rises : (run : List Entry) (from to : ℕ) → Rises run → Rises (slice_range run from to)
range_rises run from to rises =
    run_front_rises (take (to - from) (drop from run)) (drop (to - from) (drop from run))
    (subst Rises (sym (take-append-drop (to - from) (drop from run))) (rises_drop from run rises))

pub one_rises : (e : Entry) → Rises (e ∷ [])
unfolding IsStrictlySortedBy
one_rises e = (tt, tt)
