-- Runs in pieces: what spans bring to a piece and what they leave, and the run that has the groups of both.
use Rattle.std.specs.Prelude.{◌≡◌, ◌≢◌, refl, ℕ, ◌+◌, ◌*◌, ◌≤◌, Bool, true, false, cond, List, [], ◌∷◌, ◌++◌, map, filter, length, drop}
use Rattle.std.specs.Prelude.{◌&&◌, ◌||◌, ◌↔◌, IsTrue, Option, Some, None, zero, suc, ◌-◌, ◌<◌, slice_get, slice_index_or, slice_range}
use Rattle.std.specs.Prelude.{take}
use Rattle.std.specs.declared.cmp.Ordering.{Ordering}
use Rattle.std.proofs.Common.{sym, ◌∙◌, ap, subst, arith, append_assoc, append-nil}
use Rattle.std.proofs.lemmas.List.{map-append, length-append, length-drop}
use Rattle.std.proofs.lemmas.List.Edits.{length-between}
use Rattle.std.proofs.Math.Seq.{drop-length}
use Rattle.std.specs.Borrow.{Bor}
use Rattle.std.proofs.lemmas.List.Elements.{filter-append}
use Rattle.std.proofs.lemmas.List.Folds.{drop_split}
use Rattle.std.proofs.lemmas.List.Sums.{sum_by-cons, sum_by-append}
use Rattle.std.specs.declared.cmp.Ordering.TheVariants.{Less, Equal, Greater}
use Rattle.std.specs.Ordering.{is_lt, nat_cmp}
use Rattle.std.specs.Cmp.Lexicographic.{slice_cmp}
use Rattle.std.specs.List.{AllByRecursion, Any}
use Rattle.std.specs.List.Sorted.{IsStrictlySortedBy}
use Rattle.replica_merge.specs.Lemmas.Words.{each_weaker, each_front, each_behind, MAX_ROWS, Row, row_cmp, Query, Group, part}
use Rattle.replica_merge.specs.Lemmas.Words.{AreGroups, IsRun}
use Rattle.replica_merge.specs.Lemmas.Words.{IsUnion}
use Rattle.list_laws.specs.Each.{each_append}
use Rattle.grouping_model.specs.Aggregates.{Outcome}
use Rattle.grouping_model.specs.Answer.{answered, rows_of, source_in}
use Rattle.grouping_model.specs.Condition.{is_met}
use Rattle.grouping_model.specs.Datum.{HasKinds}
use Rattle.grouping_model.specs.Grouping.{keys}
use Rattle.grouping_model.specs.Parts.{keys_of, key_kinds}
use Rattle.grouping_model.specs.MemberLaws.{false_is_not_true}
use Rattle.grouping_model.specs.Lemmas.PartLaws.{keys_of-part}
use Rattle.packed_rows.specs.ConcatenatedRows.{concatenated}
use Rattle.packed_rows.specs.Packing.{packing}
use Rattle.agg_protocol.specs.States.{most_rows}
use Rattle.group_runs.specs.Runs.{Entry, Rises, packed_keys}
use Rattle.group_runs.specs.Standing.{StandsFor}
use Rattle.group_runs.specs.StandingLaws.{keys_of_kinds}
use Rattle.group_runs.specs.Adding.{groups_added}
use Rattle.group_runs.specs.MergeLaws.{puts, keys_of-groups_added}
use Rattle.group_runs.specs.Steps.{AddsRun, HasRoomForRun}
use Rattle.group_runs.specs.Lemmas.MergeLaws.{groups_added_part}
use Rattle.grouping_model.specs.Rising.{put, distinct, is_among}
use Rattle.grouping_model.specs.Rising.Facts.{among-append}
use Rattle.group_runs.specs.Lemmas.RunLaws.{rises_keys}
use Rattle.hash_agg.specs.Inputs.{Brought, Counted, rows_in, all_rows, AllBring, AreInputsOf, IsInput, OneByOne}
use Rattle.group_runs.specs.PlaceLaws.{take_found}
use Rattle.group_runs.specs.Places.{IsBelow, IsNotBelow, IsPlaceOf}
use Rattle.origin_prefix.specs.Parts.{Part}
use Rattle.replica_merge.specs.declared.pieces.Span.{Span}
use Rattle.replica_merge.specs.Pieces.{groups_of, left_of, IsSpan, brought_to, left_by, count_left, comes, IsNext, AreNext}
use Rattle.replica_merge.specs.Pieces.{HasKeysOf, IsPiece}
use Rattle.replica_merge.specs.Pieces.{HasGroups, HasLeft, IsCopy, IsEnd, AreOfNext, RowsOf, ShowPiece, ShowLeft}
use Rattle.replica_merge.proofs.UnionLaws.{one_union, union_room, added_union}
use Rattle.replica_merge.proofs.KeyLaws.{AreOfRuns, KeysInTwo, brought_kinds, crossed, distinct_in_two, keys_in_two}
use Rattle.replica_merge.proofs.PartedLaws.{put_each, distinct_each, rises_append, no, kept, kept_concatenated, kept_keys, comes_before}
use Rattle.replica_merge.proofs.PartedLaws.{key_comes, come_apart, all_apart}

-- ---- groups

groups_append : (q : Query) (n : ℕ) (xs ys : List Entry) (gs hs : List Group) → AreGroups q n xs gs → AreGroups q n ys hs
    → AreGroups q n (xs ++ ys) (gs ++ hs)
groups_append q n [] ys [] hs first second = second
groups_append q n (x ∷ xs) ys (g ∷ gs) hs (one, first) second = (one, groups_append q n xs ys gs hs first second)
groups_append q n _ ys _ hs first second = absurd first

-- groups by those of two runs
pub record InTwo (q : Query) (n : ℕ) (xs ys : List Entry) (groups : List Group) : Type 0 where
  pub first : List Group
  pub second : List Group
  pub both : groups ≡ first ++ second
  pub firsts : AreGroups q n xs first
  pub seconds : AreGroups q n ys second

pub in_two : (q : Query) (n : ℕ) (xs ys : List Entry) (groups : List Group) → AreGroups q n (xs ++ ys) groups → InTwo q n xs ys groups
in_two q n [] ys groups are = record { first = []; second = groups; both = refl; firsts = tt; seconds = are }
in_two q n (x ∷ xs) ys [] are = absurd are
in_two q n (x ∷ xs) ys (g ∷ groups) (one, are) =
    let rest = in_two q n xs ys groups are in
    record {
      first = g ∷ rest.first;
      second = rest.second;
      both = ap (λ (gs : List Group). g ∷ gs) rest.both;
      firsts = (one, rest.firsts);
      seconds = rest.seconds;
    }

-- of groups that come and groups that stay, the first run has the ones and the second the others
split_groups : (q : Query) (n : ℕ) (bound : Option (List ℕ)) (xs ys : List Entry) (gs hs : List Group)
    → AllByRecursion (λ (e : Entry). comes bound e.0 ≡ true) xs → AllByRecursion (λ (e : Entry). comes bound e.0 ≡ false) ys
    → AllByRecursion (λ k. key_comes bound k ≡ true) (keys_of gs) → AllByRecursion (λ k. no (key_comes bound) k ≡ true) (keys_of hs)
    → AreGroups q n (xs ++ ys) (gs ++ hs) → AreGroups q n xs gs × AreGroups q n ys hs
split_groups q n bound [] ys [] hs come stay first second are = (tt, are)
split_groups q n bound [] [] (g ∷ gs) hs come stay first second are = absurd are
split_groups q n bound [] (y ∷ ys) (g ∷ gs) hs come (here, stay) (there, first) second (one, are) =
    false_is_not_true (sym here ∙ ap (comes bound) one.key ∙ there)
split_groups q n bound (x ∷ xs) ys (g ∷ gs) hs (here, come) stay (there, first) second (one, are) =
    let rest = split_groups q n bound xs ys gs hs come stay first second are in
    ((one, rest.0), rest.1)
split_groups q n bound (x ∷ xs) ys [] [] come stay first second are = absurd are
split_groups q n bound (x ∷ xs) ys [] (h ∷ hs) (here, come) stay first (there, second) (one, are) =
    false_is_not_true (ap (λ b. cond b false true) (sym here ∙ ap (comes bound) one.key) ∙ there)

-- ---- rows in two parts

module _ (q : Query) (bound : Option (List ℕ)) where
  part_kinds : (n : ℕ) (run : List Entry) (rows : List Row) → AreGroups q n run (part q rows)
      → AllByRecursion (HasKinds (key_kinds q)) (keys q rows)
  part_kinds n run rows are = subst (AllByRecursion (HasKinds (key_kinds q))) (keys_of-part q rows)
      (keys_of_kinds q n run (part q rows) are)

  run_parted : (n : ℕ) (xs ys : List Entry) (rows : List Row) → AllByRecursion (λ (e : Entry). comes bound e.0 ≡ true) xs
      → AllByRecursion (λ (e : Entry). comes bound e.0 ≡ false) ys → AreGroups q n (xs ++ ys) (part q rows)
      → AreGroups q n xs (part q (kept (key_comes bound) q rows)) × AreGroups q n ys (part q (kept (no (key_comes bound)) q rows))
  run_parted n xs ys rows come stay are =
      split_groups q n bound xs ys (part q (kept (key_comes bound) q rows)) (part q (kept (no (key_comes bound)) q rows)) come stay
      (subst (AllByRecursion (λ k. key_comes bound k ≡ true)) (sym (keys_of-part q (kept (key_comes bound) q rows)))
      (kept_keys q (key_comes bound) rows))
      (subst (AllByRecursion (λ k. no (key_comes bound) k ≡ true)) (sym (keys_of-part q (kept (no (key_comes bound)) q rows)))
      (kept_keys q (no (key_comes bound)) rows))
      (subst (AreGroups q n (xs ++ ys)) (all_apart bound (key_kinds q) q rows (part_kinds n (xs ++ ys) rows are)) are)

-- ---- what spans bring, leave and had

-- what was left before a piece
abbrev pub had : List Span → List Brought
had spans = map (λ (span : Span). Counted (groups_of span ++ left_of span) (span.part.now.prefix * MAX_ROWS)) spans

-- each has groups that come, and leaves those that stay
abbrev pub ArePieces : Option (List ℕ) → List Span → Type 0
ArePieces bound spans = AllByRecursion (λ (span : Span). AllByRecursion (λ (e : Entry). comes bound e.0 ≡ true) (groups_of span)
    × AllByRecursion (λ (e : Entry). comes bound e.0 ≡ false) (left_of span)) spans

next_pieces : (bound : Option (List ℕ)) (olds nexts : List Span) → AreNext bound olds nexts → ArePieces bound nexts
next_pieces bound [] [] are = tt
next_pieces bound (s ∷ olds) (t ∷ nexts) (is, are) = ((is.come, is.stay), next_pieces bound olds nexts are)
next_pieces bound _ _ are = absurd are

-- what a span left the next one has or leaves
left_is : (bound : Option (List ℕ)) (s t : Span) → IsNext bound s t → left_of s ≡ groups_of t ++ left_of t
left_is bound s t is =
    sym (λ i. drop (is.from i) (is.part i).now.run) ∙ drop_split t.part.now.run t.from t.to is.span.order

pub left_had : (bound : Option (List ℕ)) (olds nexts : List Span) → AreNext bound olds nexts → left_by olds ≡ had nexts
left_had bound [] [] are = refl
left_had bound (s ∷ olds) (t ∷ nexts) (is, are) =
    λ i. Counted (left_is bound s t is i) ((sym is.part i).now.prefix * MAX_ROWS) ∷ left_had bound olds nexts are i
left_had bound _ _ are = absurd are

pub had_rows : (spans : List Span) → all_rows (had spans) ≡ all_rows (brought_to spans)
had_rows [] = refl
had_rows (s ∷ spans) =
    sum_by-cons rows_in (Counted (groups_of s ++ left_of s) (s.part.now.prefix * MAX_ROWS)) (had spans)
    ∙ ap (λ n. s.part.now.prefix * MAX_ROWS + n) (had_rows spans)
    ∙ sym (sum_by-cons rows_in (Counted (groups_of s) (s.part.now.prefix * MAX_ROWS)) (brought_to spans))

pub left_rows : (spans : List Span) → all_rows (had spans) ≡ all_rows (left_by spans)
left_rows [] = refl
left_rows (s ∷ spans) =
    sum_by-cons rows_in (Counted (groups_of s ++ left_of s) (s.part.now.prefix * MAX_ROWS)) (had spans)
    ∙ ap (λ n. s.part.now.prefix * MAX_ROWS + n) (left_rows spans)
    ∙ sym (sum_by-cons rows_in (Counted (left_of s) (s.part.now.prefix * MAX_ROWS)) (left_by spans))

lists_parted : (q : Query) (bound : Option (List ℕ)) (spans : List Span) (lists : List (List Row)) → ArePieces bound spans
    → AreInputsOf q (had spans) lists
    → AreInputsOf q (brought_to spans) (map (kept (key_comes bound) q) lists)
    × AreInputsOf q (left_by spans) (map (kept (no (key_comes bound)) q) lists)
lists_parted q bound [] [] pieces are = (tt, tt)
lists_parted q bound [] (rows ∷ lists) pieces are = absurd are
lists_parted q bound (s ∷ spans) [] pieces are = absurd are
lists_parted q bound (s ∷ spans) (rows ∷ lists) (one, pieces) (is, are) =
    let here = run_parted q bound (s.part.now.prefix * MAX_ROWS) (groups_of s) (left_of s) rows one.0 one.1 is in
    let rest = lists_parted q bound spans lists pieces are in
    ((here.0, rest.0), (here.1, rest.1))

-- ---- the keys that spans bring

runs_of : (entries : Span → List Entry) (spans : List Span)
    → AreOfRuns (map (λ (span : Span). Counted (entries span) (span.part.now.prefix * MAX_ROWS)) spans)
runs_of entries [] = tt
runs_of entries (s ∷ spans) = (tt, runs_of entries spans)

-- those that come, and those that stay
record BringInTwo (q : Query) (spans : List Span) (lists : List (List Row)) : Type 0 where
  firsts : List (List Row)
  seconds : List (List Row)
  come : AllBring q (brought_to spans) firsts
  stay : AllBring q (left_by spans) seconds
  among : (key : Row) → is_among row_cmp key (concatenated lists)
      ≡ (is_among row_cmp key (concatenated firsts) || is_among row_cmp key (concatenated seconds))

bring_in_two : (q : Query) (spans : List Span) (lists : List (List Row)) → AllBring q (had spans) lists → BringInTwo q spans lists
bring_in_two q [] [] bring = record { firsts = []; seconds = []; come = tt; stay = tt; among = λ key. refl }
bring_in_two q [] (ks ∷ lists) bring = absurd bring
bring_in_two q (s ∷ spans) [] bring = absurd bring
bring_in_two q (s ∷ spans) (ks ∷ lists) (one, bring) =
    let two : KeysInTwo (groups_of s) (left_of s) ks = keys_in_two (groups_of s) (left_of s) ks one.packings_are in
    let rest : BringInTwo q spans lists = bring_in_two q spans lists bring in
    let has : AllByRecursion (HasKinds (key_kinds q)) (two.first ++ two.second) = subst (AllByRecursion (HasKinds (key_kinds q))) two.both
    one.of_kinds in
    record {
      firsts = two.first ∷ rest.firsts;
      seconds = two.second ∷ rest.seconds;
      come = (
        record { of_kinds = each_front (HasKinds (key_kinds q)) two.first two.second has; packings_are = two.firsts },
        rest.come,
      );
      stay = (
        record { of_kinds = each_behind (HasKinds (key_kinds q)) two.first two.second has; packings_are = two.seconds },
        rest.stay,
      );
      among = λ key.
          (λ i. is_among row_cmp key (two.both i ++ concatenated lists))
          ∙ among-append row_cmp key (two.first ++ two.second) (concatenated lists)
          ∙ (λ i. among-append row_cmp key two.first two.second i || rest.among key i)
          ∙ crossed (is_among row_cmp key two.first) (is_among row_cmp key two.second) (is_among row_cmp key (concatenated rest.firsts))
          (is_among row_cmp key (concatenated rest.seconds))
          ∙ sym (λ i. among-append row_cmp key two.first (concatenated rest.firsts) i
          || among-append row_cmp key two.second (concatenated rest.seconds) i);
    }

-- ---- the run of a piece, and one of what is left

runs_before : (bound : Option (List ℕ)) (xs ys : List Entry) → AllByRecursion (λ (e : Entry). comes bound e.0 ≡ true) xs
    → AllByRecursion (λ (e : Entry). comes bound e.0 ≡ false) ys
    → AllByRecursion (λ (x : List ℕ). AllByRecursion (λ (y : List ℕ). slice_cmp nat_cmp x y ≡ Less) (packed_keys ys)) (packed_keys xs)
runs_before bound [] ys come stay = tt
runs_before bound (x ∷ xs) ys (here, come) stay = (walk ys stay, runs_before bound xs ys come stay)
  where
    walk : (zs : List Entry) → AllByRecursion (λ (e : Entry). comes bound e.0 ≡ false) zs
        → AllByRecursion (λ (y : List ℕ). slice_cmp nat_cmp x.0 y ≡ Less) (packed_keys zs)
    walk [] all = tt
    walk (z ∷ zs) (first, all) = (comes_before bound x.0 z.0 here first, walk zs all)

runs_rise : (bound : Option (List ℕ)) (xs ys : List Entry) → AllByRecursion (λ (e : Entry). comes bound e.0 ≡ true) xs
    → AllByRecursion (λ (e : Entry). comes bound e.0 ≡ false) ys → Rises xs → Rises ys → Rises (xs ++ ys)
runs_rise bound xs ys come stay first second =
    subst (IsStrictlySortedBy (slice_cmp nat_cmp)) (sym (map-append (λ (e : Entry). e.0) xs ys))
    (rises_append (slice_cmp nat_cmp) (packed_keys xs) (packed_keys ys) first second (runs_before bound xs ys come stay))

module _ (q : Query) (bound : Option (List ℕ)) (spans : List Span) (piece rest : List Entry) (pieces : ArePieces bound spans)
    (left : IsUnion q (brought_to spans) piece) (right : IsUnion q (left_by spans) rest)
    (come : AllByRecursion (λ (e : Entry). comes bound e.0 ≡ true) piece)
    (stay : AllByRecursion (λ (e : Entry). comes bound e.0 ≡ false) rest) where
  both_part : (lists : List (List Row)) → AreInputsOf q (had spans) lists
      → AreGroups q (all_rows (had spans)) (piece ++ rest) (part q (concatenated lists))
  both_part lists are =
      let n : ℕ = all_rows (had spans) in
      let rows : List Row = concatenated lists in
      let two = lists_parted q bound spans lists pieces are in
      let first : AreGroups q n piece (part q (kept (key_comes bound) q rows)) =
      subst (λ m. AreGroups q m piece (part q (kept (key_comes bound) q rows))) (sym (had_rows spans))
      (subst (λ those. AreGroups q (all_rows (brought_to spans)) piece (part q those)) (sym (kept_concatenated (key_comes bound) q lists))
      (left.part (map (kept (key_comes bound) q) lists) two.0)) in
      let second : AreGroups q n rest (part q (kept (no (key_comes bound)) q rows)) =
      subst (λ m. AreGroups q m rest (part q (kept (no (key_comes bound)) q rows))) (sym (left_rows spans))
      (subst (λ those. AreGroups q (all_rows (left_by spans)) rest (part q those)) (sym (kept_concatenated (no (key_comes bound)) q lists))
      (right.part (map (kept (no (key_comes bound)) q) lists) two.1)) in
      subst (AreGroups q n (piece ++ rest)) (sym (come_apart bound (key_kinds q) q rows
      (part_kinds q bound n piece (kept (key_comes bound) q rows) first)
      (part_kinds q bound n rest (kept (no (key_comes bound)) q rows) second)))
      (groups_append q n piece rest (part q (kept (key_comes bound) q rows)) (part q (kept (no (key_comes bound)) q rows)) first second)

  both_keys : (lists : List (List Row)) → AllBring q (had spans) lists → packed_keys (piece ++ rest)
      ≡ map packing (distinct row_cmp (concatenated lists))
  both_keys lists bring =
      let two : BringInTwo q spans lists = bring_in_two q spans lists bring in
      let firsts : List Row = concatenated two.firsts in
      let seconds : List Row = concatenated two.seconds in
      let packed : packed_keys (piece ++ rest) ≡ map packing (distinct row_cmp firsts ++ distinct row_cmp seconds) =
      map-append (λ (e : Entry). e.0) piece rest
      ∙ (λ i. left.keys two.firsts two.come i ++ right.keys two.seconds two.stay i)
      ∙ sym (map-append packing (distinct row_cmp firsts) (distinct row_cmp seconds)) in
      let has : AllByRecursion (HasKinds (key_kinds q)) (distinct row_cmp firsts ++ distinct row_cmp seconds) =
      each_append (HasKinds (key_kinds q)) (distinct row_cmp firsts) (distinct row_cmp seconds)
      (distinct_each (HasKinds (key_kinds q)) firsts (brought_kinds q (brought_to spans) two.firsts (runs_of groups_of spans) two.come))
      (distinct_each (HasKinds (key_kinds q)) seconds (brought_kinds q (left_by spans) two.seconds (runs_of left_of spans) two.stay)) in
      let rises : IsStrictlySortedBy row_cmp (distinct row_cmp firsts ++ distinct row_cmp seconds) =
      rises_keys (key_kinds q) (distinct row_cmp firsts ++ distinct row_cmp seconds) has
      (subst (IsStrictlySortedBy (slice_cmp nat_cmp)) packed
      (runs_rise bound piece rest come stay left.is_run.rises right.is_run.rises)) in
      packed ∙ ap (map packing) (distinct_in_two firsts seconds (concatenated lists) rises two.among)

  pub both_union : IsUnion q (had spans) (piece ++ rest)
  both_union =
      record {
        part = both_part;
        keys = both_keys;
        is_run =
            record {
              groups = left.is_run.groups ++ right.is_run.groups;
              are = groups_append q (all_rows (had spans)) piece rest left.is_run.groups right.is_run.groups
                  (subst (λ m. AreGroups q m piece left.is_run.groups) (sym (had_rows spans)) left.is_run.are)
                  (subst (λ m. AreGroups q m rest right.is_run.groups) (sym (left_rows spans)) right.is_run.are);
              rises = runs_rise bound piece rest come stay left.is_run.rises right.is_run.rises;
            };
      }

-- ---- pieces, one after the other

-- with any run of what is left, what is done is a run of all
pub record Unites (q : Query) (all : List Brought) (spans : List Span) (done : List Entry) : Type 0 where
  pub with_left : (rest : List Entry) → IsUnion q (left_by spans) rest → HasKeysOf (map left_of spans) rest
      → IsUnion q all (done ++ rest)

pub unites_none : (q : Query) (spans : List Span) → Unites q (left_by spans) spans []
unites_none q spans = record { with_left = λ rest union keys. union }

come_each : (bound : Option (List ℕ)) (spans : List Span) → ArePieces bound spans
    → AllByRecursion (λ (one : List Entry). AllByRecursion (λ (e : Entry). comes bound e.0 ≡ true) one) (map groups_of spans)
come_each bound [] pieces = tt
come_each bound (s ∷ spans) (one, pieces) = (one.0, come_each bound spans pieces)

stay_each : (bound : Option (List ℕ)) (spans : List Span) → ArePieces bound spans
    → AllByRecursion (λ (one : List Entry). AllByRecursion (λ (e : Entry). cond (comes bound e.0) false true ≡ true) one)
    (map left_of spans)
stay_each bound [] pieces = tt
stay_each bound (s ∷ spans) (one, pieces) = (
  each_weaker (λ (e : Entry). comes bound e.0 ≡ false) (λ (e : Entry). cond (comes bound e.0) false true ≡ true)
      (λ e is. ap (λ b. cond b false true) is) (left_of s) one.1,
  stay_each bound spans pieces,
)

not_true : (b : Bool) → cond b false true ≡ true → b ≡ false
not_true true e = sym e
not_true false e = refl

-- what holds of all that was left holds of what comes and of what is left then
keys_come : (bound : Option (List ℕ)) (p : List ℕ → Bool) (olds nexts : List Span) → AreNext bound olds nexts
    → AllByRecursion (λ (one : List Entry). AllByRecursion (λ (e : Entry). p e.0 ≡ true) one) (map left_of olds)
    → AllByRecursion (λ (one : List Entry). AllByRecursion (λ (e : Entry). p e.0 ≡ true) one) (map groups_of nexts)
    × AllByRecursion (λ (one : List Entry). AllByRecursion (λ (e : Entry). p e.0 ≡ true) one) (map left_of nexts)
keys_come bound p [] [] are all = (tt, tt)
keys_come bound p [] (t ∷ nexts) are all = absurd are
keys_come bound p (s ∷ olds) [] are all = absurd are
keys_come bound p (s ∷ olds) (t ∷ nexts) (is, are) (first, all) =
    let here : AllByRecursion (λ (e : Entry). p e.0 ≡ true) (groups_of t ++ left_of t)
    = subst (AllByRecursion (λ (e : Entry). p e.0 ≡ true)) (left_is bound s t is) first in
    let rest = keys_come bound p olds nexts are all in (
      (each_front (λ (e : Entry). p e.0 ≡ true) (groups_of t) (left_of t) here, rest.0),
      (
        each_behind (λ (e : Entry). p e.0 ≡ true)
            (groups_of t) (left_of t) here,
        rest.1,
      ),
    )

pub unites_next : (q : Query) (all : List Brought) (bound : Option (List ℕ)) (olds nexts : List Span) (done piece : List Entry)
    → AreNext bound olds nexts → Unites q all olds done → IsPiece q nexts piece → Unites q all nexts (done ++ piece)
unites_next q all bound olds nexts done piece are so_far is =
    record {
      with_left = λ rest union keys.
          let pieces = next_pieces bound olds nexts are in
          let come : AllByRecursion (λ (e : Entry). comes bound e.0 ≡ true) piece = is.keys (comes bound) (come_each bound nexts pieces) in
          let stay : AllByRecursion (λ (e : Entry). comes bound e.0 ≡ false) rest =
          each_weaker (λ (e : Entry). cond (comes bound e.0) false true ≡ true) (λ (e : Entry). comes bound e.0 ≡ false)
          (λ e high. not_true (comes bound e.0) high) rest
          (keys (λ (key : List ℕ). cond (comes bound key) false true) (stay_each bound nexts pieces)) in
          subst (IsUnion q all) (sym (append_assoc done piece rest))
          (so_far.with_left (piece ++ rest)
          (subst (λ inputs. IsUnion q inputs (piece ++ rest)) (sym (left_had bound olds nexts are))
          (both_union q bound nexts piece rest pieces is.union union come stay))
          (λ p those.
          let two = keys_come bound p olds nexts are those in
          each_append (λ (e : Entry). p e.0 ≡ true) piece rest (is.keys p two.0) (keys p two.1)));
    }

-- ---- nothing is left

-- no span leaves a group
abbrev pub NoneLeft : List Span → Type 0
NoneLeft spans = AllByRecursion (λ (span : Span). left_of span ≡ []) spans

no_part : (q : Query) (n : ℕ) (run : List Entry) (groups : List Group) → run ≡ [] → AreGroups q n run groups → groups ≡ []
no_part q n [] [] none are = refl
no_part q n [] (g ∷ groups) none are = absurd are
no_part q n (e ∷ run) groups none are = let long = ap length none in absurd (omega (arith, long))

no_parts : (q : Query) (spans : List Span) (lists : List (List Row)) → NoneLeft spans → AreInputsOf q (left_by spans) lists
    → part q (concatenated lists) ≡ []
no_parts q [] [] none are = refl
no_parts q [] (rows ∷ lists) none are = absurd are
no_parts q (s ∷ spans) [] none are = absurd are
no_parts q (s ∷ spans) (rows ∷ lists) (first, none) (one, are) =
    sym (groups_added_part q rows (concatenated lists))
    ∙ (λ i. groups_added q (no_part q (s.part.now.prefix * MAX_ROWS) (left_of s) (part q rows) first one i)
    (no_parts q spans lists none are i))

no_key : (ks : List Row) → [] ≡ map packing ks → ks ≡ []
no_key [] same = refl
no_key (k ∷ ks) same = absurd cc

no_keys : (q : Query) (spans : List Span) (lists : List (List Row)) → NoneLeft spans → AllBring q (left_by spans) lists
    → concatenated lists ≡ []
no_keys q [] [] none bring = refl
no_keys q [] (ks ∷ lists) none bring = absurd bring
no_keys q (s ∷ spans) [] none bring = absurd bring
no_keys q (s ∷ spans) (ks ∷ lists) (first, none) (one, bring) =
    λ i. no_key ks (sym (ap packed_keys first) ∙ one.packings_are) i ++ no_keys q spans lists none bring i

nothing_rises : Rises []
unfolding IsStrictlySortedBy
nothing_rises = tt

pub none_union : (q : Query) (spans : List Span) → NoneLeft spans → IsUnion q (left_by spans) []
none_union q spans none =
    record {
      part = λ lists are. subst (AreGroups q (all_rows (left_by spans)) []) (sym (no_parts q spans lists none are)) tt;
      keys = λ lists bring. ap (λ ks. map packing (distinct row_cmp ks)) (sym (no_keys q spans lists none bring));
      is_run = record { groups = []; are = tt; rises = nothing_rises };
    }

pub united_all : (q : Query) (all : List Brought) (spans : List Span) (done : List Entry) → NoneLeft spans → Unites q all spans done
    → IsUnion q all done
united_all q all spans done none so_far =
    subst (IsUnion q all) (append-nil done) (so_far.with_left [] (none_union q spans none) (λ p those. tt))

-- ---- rows

rows_append : (q : Query) (gs hs : List Group) → rows_of q (gs ++ hs) ≡ rows_of q gs ++ rows_of q hs
rows_append q gs hs =
    ap (map (λ (group : Group). map (source_in group) q.items)) (filter-append (λ (group : Group). is_met (source_in group) q.having) gs hs)
    ∙ map-append (λ (group : Group). map (source_in group) q.items) (filter (λ (group : Group). is_met (source_in group) q.having) gs)
    (filter (λ (group : Group). is_met (source_in group) q.having) hs)

pub rows_none : (q : Query) (most : ℕ) (groups : List Group) → most ≤ most_rows → AreGroups q most [] groups → [] ≡ rows_of q groups
rows_none q most [] low are = refl
rows_none q most (g ∷ groups) low are = absurd are

pub rows_next : (q : Query) (done piece : List Entry) (rows more : List (List Outcome)) → RowsOf q done rows → RowsOf q piece more
    → RowsOf q (done ++ piece) (rows ++ more)
rows_next q done piece rows more first second =
    λ most groups low are.
    let two : InTwo q most done piece groups = in_two q most done piece groups are in
    (λ i. first most two.first low two.firsts i ++ second most two.second low two.seconds i)
    ∙ sym (rows_append q two.first two.second)
    ∙ ap (rows_of q) (sym two.both)

-- where there are groups, these rows are all
pub shown_some : (q : Query) (all : List Span) (done : List Entry) (rows : List (List Outcome)) → IsUnion q (left_by all) done → done ≢ []
    → RowsOf q done rows → ShowLeft q all rows
shown_some q all done rows union some given =
    record {
      run = done;
      union = union;
      shown = λ most groups low are. given most groups low are ∙ ap (rows_of q) (answers groups (λ none. some (no_run most done groups none
          are)));
    }
  where
    no_run : (most : ℕ) (run : List Entry) (groups : List Group) → groups ≡ [] → AreGroups q most run groups → run ≡ []
    no_run most [] groups none are = refl
    no_run most (e ∷ run) [] none are = absurd are
    no_run most (e ∷ run) (g ∷ groups) none are = let long = ap length none in absurd (omega (arith, long))

    answers : (groups : List Group) → groups ≢ [] → groups ≡ answered q groups
    answers [] some = absurd (some refl)
    answers (g ∷ groups) some = refl

-- where there are none, those of no groups are
pub shown_none : (q : Query) (all : List Span) (done : List Entry) (rows more : List (List Outcome)) → IsUnion q (left_by all) done
    → done ≡ [] → RowsOf q done rows
    → ((most : ℕ) (groups : List Group) → most ≤ most_rows → AreGroups q most [] groups → more ≡ rows_of q (answered q groups))
    → ShowLeft q all (rows ++ more)
shown_none q all done rows more union none given last =
    record {
      run = [];
      union = subst (IsUnion q (left_by all)) none union;
      shown = λ most groups low are.
          let first : rows ≡ [] = given 0 [] (omega arith) (subst (λ es. AreGroups q 0 es []) (sym none) tt) in
          ap (λ those. those ++ more) first ∙ last most groups low are;
    }

-- ---- the run of a piece

-- a test that holds of all keys of two lists of groups holds of those of both
added_each : (P : Row → Type 0) (ks ls : List Row) → AllByRecursion P ks → AllByRecursion P ls → AllByRecursion P (puts ks ls)
added_each P ks [] all more = all
added_each P ks (l ∷ ls) all (first, more) = added_each P (put row_cmp l ks) ls (put_each P l ks first all) more

keys_to : (q : Query) (n : ℕ) (p : List ℕ → Bool) (run : List Entry) (groups : List Group) → AreGroups q n run groups
    → AllByRecursion (λ (e : Entry). p e.0 ≡ true) run → AllByRecursion (λ k. p (packing k) ≡ true) (keys_of groups)
keys_to q n p [] [] are all = tt
keys_to q n p (e ∷ run) (g ∷ groups) (one, are) (first, all) = (ap p (sym one.key) ∙ first, keys_to q n p run groups are all)
keys_to q n p _ _ are all = absurd are

keys_from : (q : Query) (n : ℕ) (p : List ℕ → Bool) (run : List Entry) (groups : List Group) → AreGroups q n run groups
    → AllByRecursion (λ k. p (packing k) ≡ true) (keys_of groups) → AllByRecursion (λ (e : Entry). p e.0 ≡ true) run
keys_from q n p [] [] are all = tt
keys_from q n p (e ∷ run) (g ∷ groups) (one, are) (first, all) = (ap p one.key ∙ first, keys_from q n p run groups are all)
keys_from q n p _ _ are all = absurd are

both_groups : (front back : List Span) → map groups_of (front ++ back) ≡ map groups_of front ++ map groups_of back
both_groups front back = map-append groups_of front back

brings : (front back : List Span) → brought_to (front ++ back) ≡ brought_to front ++ brought_to back
brings front back = map-append (λ (span : Span). Counted (groups_of span) (span.part.now.prefix * MAX_ROWS)) front back

module _ (q : Query) (spans front back : List Span) (a b : List Entry) (both : spans ≡ front ++ back)
    (few : all_rows (brought_to spans) ≤ most_rows) (left : IsPiece q front a) (right : IsPiece q back b) where
  few_both : all_rows (brought_to front ++ brought_to back) ≤ most_rows
  few_both = subst (λ inputs. all_rows inputs ≤ most_rows) (ap brought_to both ∙ brings front back) few

  pub piece_room : HasRoomForRun q a b
  piece_room = union_room q (brought_to front) (brought_to back) a b a few_both left.union right.union

  pub piece_of_both : (c : List Entry) → AddsRun q a b c → IsPiece q spans c
  piece_of_both c added =
      record {
        union = subst (λ inputs. IsUnion q inputs c) (sym (ap brought_to both ∙ brings front back))
            (added_union q (brought_to front) (brought_to back) a b c few_both left.union right.union (runs_of groups_of front)
            (runs_of groups_of back) added);
        keys = λ p those.
            let all : AllByRecursion (λ (one : List Entry). AllByRecursion (λ (e : Entry). p e.0 ≡ true) one) (map groups_of front
            ++ map groups_of back) =
            subst (AllByRecursion (λ (one : List Entry). AllByRecursion (λ (e : Entry). p e.0 ≡ true) one))
            (ap (map groups_of) both ∙ both_groups front back) those in
            let fronts = left.keys p (each_front (λ (one : List Entry). AllByRecursion (λ (e : Entry). p e.0 ≡ true) one)
            (map groups_of front) (map groups_of back) all) in
            let backs = right.keys p (each_behind (λ (one : List Entry). AllByRecursion (λ (e : Entry). p e.0 ≡ true) one)
            (map groups_of front) (map groups_of back) all) in
            let r : HasRoomForRun q a b = piece_room in
            keys_from q (r.0 + r.1) p c (groups_added q r.2 r.3) (added r.0 r.1 r.2 r.3 r.7 r.4 r.5)
            (subst (AllByRecursion (λ k. p (packing k) ≡ true)) (sym (keys_of-groups_added q r.2 r.3))
            (added_each (λ k. p (packing k) ≡ true) (keys_of r.2) (keys_of r.3) (keys_to q r.0 p a r.2 r.4 fronts)
            (keys_to q r.1 p b r.3 r.5 backs)));
      }

-- of one span, and of none
pub piece_of_one : (q : Query) (span : Span) → IsRun q (span.part.now.prefix * MAX_ROWS) (groups_of span)
    → IsPiece q (span ∷ []) (groups_of span)
piece_of_one q span is =
    record { union = one_union q (groups_of span) (span.part.now.prefix * MAX_ROWS) is; keys = λ p those. those.0 }

pub piece_of_none : (q : Query) → IsPiece q [] []
piece_of_none q =
    record {
      union = record {
        part = no_rows;
        keys = none_brought;
        is_run = record { groups = []; are = tt; rises = nothing_rises };
      };
      keys = λ p those. tt;
    }
  where
    no_rows : (lists : List (List Row)) → AreInputsOf q [] lists → AreGroups q (all_rows []) [] (part q (concatenated lists))
    no_rows [] are = tt
    no_rows (rows ∷ lists) are = absurd are

    none_brought : (lists : List (List Row)) → AllBring q [] lists → packed_keys [] ≡ map packing (distinct row_cmp (concatenated lists))
    none_brought [] bring = refl
    none_brought (ks ∷ lists) bring = absurd bring

-- a copy of the first span's groups
pub copy_first : (spans : List Span) (s : Span) (run : List Entry) → slice_get spans 0 ≡ Some s → run ≡ groups_of s → IsCopy spans run
copy_first [] s run first is = absurd cc
copy_first (t ∷ []) s run first is = let same : t ≡ s = cc in is ∙ ap groups_of (sym same)
copy_first (t ∷ u ∷ spans) s run first is = tt

pub copy_none : (spans : List Span) (run : List Entry) → spans ≡ [] → run ≡ [] → IsCopy spans run
copy_none spans run none is = subst (λ those. IsCopy those run) (sym none) is

pub piece_of_few : (q : Query) (spans : List Span) (run : List Entry) → length spans < 2 → IsCopy spans run
    → AllByRecursion (IsInput q) (brought_to spans) → IsPiece q spans run
piece_of_few q [] run low is all = subst (IsPiece q []) (sym is) (piece_of_none q)
piece_of_few q (s ∷ []) run low is all = subst (IsPiece q (s ∷ [])) (sym is) (piece_of_one q s all.0)
piece_of_few q (s ∷ t ∷ spans) run low is all = absurd (omega (arith, low))

-- ---- spans in halves

module _ (q : Query) (spans front back : List Span) (both : spans ≡ front ++ back) where
  brings_both : brought_to spans ≡ brought_to front ++ brought_to back
  brings_both = ap brought_to both ∙ brings front back

  pub front_inputs : AllByRecursion (IsInput q) (brought_to spans) → AllByRecursion (IsInput q) (brought_to front)
  front_inputs all = each_front (IsInput q) (brought_to front) (brought_to back) (subst (AllByRecursion (IsInput q)) brings_both all)

  pub back_inputs : AllByRecursion (IsInput q) (brought_to spans) → AllByRecursion (IsInput q) (brought_to back)
  back_inputs all = each_behind (IsInput q) (brought_to front) (brought_to back) (subst (AllByRecursion (IsInput q)) brings_both all)

  pub front_within : AllByRecursion IsSpan spans → AllByRecursion IsSpan front
  front_within all = each_front IsSpan front back (subst (AllByRecursion IsSpan) both all)

  pub back_within : AllByRecursion IsSpan spans → AllByRecursion IsSpan back
  back_within all = each_behind IsSpan front back (subst (AllByRecursion IsSpan) both all)

  both_rows : all_rows (brought_to spans) ≡ all_rows (brought_to front) + all_rows (brought_to back)
  both_rows = ap all_rows brings_both ∙ sum_by-append rows_in (brought_to front) (brought_to back)

  pub front_few : all_rows (brought_to spans) ≤ most_rows → all_rows (brought_to front) ≤ most_rows
  front_few few = let sum = both_rows in omega (arith, few, sum)

  pub back_few : all_rows (brought_to spans) ≤ most_rows → all_rows (brought_to back) ≤ most_rows
  back_few few = let sum = both_rows in omega (arith, few, sum)

-- ---- where a piece ends

not_less : (r : Ordering) → r ≢ Less → is_lt r ≡ false
not_less Less high = absurd (high refl)
not_less Equal high = refl
not_less Greater high = refl

pub end_at_place : (key : List ℕ) (span : Span) (place : ℕ) → IsPlaceOf span.part.now.run span.to key place
    → IsEnd (Some key) span place
end_at_place key span place is =
    record {
      order = is.behind;
      within = is.within;
      come = each_weaker (IsBelow key) (λ (e : Entry). comes (Some key) e.0 ≡ true) (λ e low. ap is_lt low)
          (slice_range span.part.now.run span.to place) is.below;
      stay = each_weaker (IsNotBelow key) (λ (e : Entry). comes (Some key) e.0 ≡ false)
          (λ e high. not_less (slice_cmp nat_cmp e.0 key) high)
          (drop place span.part.now.run) is.not_below;
    }

pub end_of_all : (span : Span) (end : ℕ) → end ≡ length span.part.now.run → IsSpan span → IsEnd None span end
end_of_all span end is inside =
    let within = inside.within in
    record {
      order = omega (arith, is, within);
      within = omega (arith, is);
      come = each_comes (slice_range span.part.now.run span.to end);
      stay = subst (AllByRecursion (λ (e : Entry). comes None e.0 ≡ false)) (sym (ap (λ n. drop n span.part.now.run) is
          ∙ drop-length span.part.now.run)) tt;
    }
  where
    each_comes : (es : List Entry) → AllByRecursion (λ (e : Entry). comes None e.0 ≡ true) es
    each_comes [] = tt
    each_comes (e ∷ es) = (refl, each_comes es)

-- the next span, by where it ends
pub next_by_end : (bound : Option (List ℕ)) (old next : Span) → next.part ≡ old.part → next.from ≡ old.to → IsEnd bound old next.to
    → IsNext bound old next
next_by_end bound old next part from is =
    record {
      part = part;
      from = from;
      span = record {
        order = subst (λ n. n ≤ next.to) (sym from) is.order;
        within = subst (λ (p : Bor Part). next.to ≤ length p.now.run) (sym part) is.within;
      };
      come = subst (λ (p : Bor Part). AllByRecursion (λ (e : Entry). comes bound e.0 ≡ true) (slice_range p.now.run next.from next.to))
          (sym part)
          (subst (λ n. AllByRecursion (λ (e : Entry). comes bound e.0 ≡ true) (slice_range old.part.now.run n next.to)) (sym from) is.come);
      stay = subst (λ (p : Bor Part). AllByRecursion (λ (e : Entry). comes bound e.0 ≡ false) (drop next.to p.now.run)) (sym part) is.stay;
    }

pub one_more : (bound : Option (List ℕ)) (olds nexts : List Span) (old next : Span) → AreNext bound olds nexts → IsNext bound old next
    → AreNext bound (olds ++ old ∷ []) (nexts ++ next ∷ [])
one_more bound [] [] old next are is = (is, tt)
one_more bound (o ∷ olds) (n ∷ nexts) old next (one, are) is = (one, one_more bound olds nexts old next are is)
one_more bound _ _ old next are is = absurd are

-- the member that a loop has come to
got : {X : Type 0} (xs : List X) (i : ℕ) (x : X) → i < length xs → x ≡ slice_index_or xs i x → slice_get xs i ≡ Some x
got [] i x low is = absurd (omega (arith, low))
got (y ∷ xs) zero x low is = ap Some (sym is)
got (y ∷ xs) (suc i) x low is = got xs i x (omega (arith, low)) is

pub next_one : (bound : Option (List ℕ)) (olds nexts more : List Span) (i : ℕ) (old next : Span) → i < length olds
    → old ≡ slice_index_or olds i old → AreNext bound (take i olds) nexts → IsNext bound old next → more ≡ nexts ++ next ∷ []
    → AreNext bound (take (i + 1) olds) more
next_one bound olds nexts more i old next low here are is items =
    subst (AreNext bound (take (i + 1) olds)) (sym items)
    (subst (λ those. AreNext bound those (nexts ++ next ∷ [])) (sym (take_found olds i old (got olds i old low here)))
    (one_more bound (take i olds) nexts old next are is))

pub nexts_within : (bound : Option (List ℕ)) (olds nexts : List Span) → AreNext bound olds nexts → AllByRecursion IsSpan nexts
nexts_within bound [] [] are = tt
nexts_within bound (s ∷ olds) (t ∷ nexts) (is, are) = (is.span, nexts_within bound olds nexts are)
nexts_within bound _ _ are = absurd are

-- ---- fewer groups are left

left_long : (bound : Option (List ℕ)) (s t : Span) → IsNext bound s t → length (left_of s) ≡ t.to - t.from + length (left_of t)
left_long bound s t is =
    ap length (left_is bound s t is)
    ∙ length-append (groups_of t) (left_of t)
    ∙ ap (λ n. n + length (left_of t)) (length-between t.part.now.run t.from t.to is.span.within)

-- how many groups one more span leaves
count_cons : (s : Span) (spans : List Span) → count_left (s ∷ spans) ≡ length (left_of s) + count_left spans
count_cons s spans = sum_by-cons (λ (span : Span). length (left_of span)) s spans

not_more : (bound : Option (List ℕ)) (olds nexts : List Span) → AreNext bound olds nexts → count_left nexts ≤ count_left olds
not_more bound [] [] are = omega arith
not_more bound (s ∷ olds) (t ∷ nexts) (is, are) =
    let rest = not_more bound olds nexts are in
    let one = left_long bound s t is in
    let first = count_cons s olds in
    let second = count_cons t nexts in
    omega (arith, rest, one, first, second)
not_more bound _ _ are = absurd are

some_fewer : (bound : Option (List ℕ)) (olds nexts : List Span) (at : ℕ) (span : Span) → AreNext bound olds nexts
    → at < length nexts → slice_index_or nexts at span ≡ span → span.from < span.to → count_left nexts < count_left olds
some_fewer bound [] [] at span are low is some = absurd (omega (arith, low))
some_fewer bound (s ∷ olds) (t ∷ nexts) zero span (one, are) low is some =
    let here : t.from < t.to = subst (λ (x : Span). x.from < x.to) (sym is) some in
    let rest = not_more bound olds nexts are in
    let long = left_long bound s t one in
    let first = count_cons s olds in
    let second = count_cons t nexts in
    omega (arith, here, rest, long, first, second)
some_fewer bound (s ∷ olds) (t ∷ nexts) (suc at) span (one, are) low is some =
    let rest = some_fewer bound olds nexts at span are (omega (arith, low)) is some in
    let long = left_long bound s t one in
    let first = count_cons s olds in
    let second = count_cons t nexts in
    omega (arith, rest, long, first, second)
some_fewer bound _ _ at span are low is some = absurd are

pub fewer_some : (bound : Option (List ℕ)) (olds nexts : List Span) → AreNext bound olds nexts → Any HasGroups nexts
    → count_left nexts < count_left olds
fewer_some bound olds nexts are any = some_fewer bound olds nexts any.0 any.1 are any.2 any.3 any.4

none_stay : (es : List Entry) → AllByRecursion (λ (e : Entry). comes None e.0 ≡ false) es → length es ≡ 0
none_stay [] all = refl
none_stay (e ∷ es) (first, all) = false_is_not_true (sym first)

none_left : (olds nexts : List Span) → AreNext None olds nexts → count_left nexts ≡ 0
none_left [] [] are = refl
none_left (s ∷ olds) (t ∷ nexts) (is, are) =
    let rest = none_left olds nexts are in
    let one = none_stay (left_of t) is.stay in
    let sum = count_cons t nexts in
    omega (arith, rest, one, sum)
none_left _ _ are = absurd are

pub fewer_all : (olds nexts : List Span) → AreNext None olds nexts → 0 < count_left olds → count_left nexts < count_left olds
fewer_all olds nexts are some = let none = none_left olds nexts are in omega (arith, none, some)

-- ---- whether groups are left

pub none_of : (spans : List Span) → (Any HasLeft spans → ⊥) → NoneLeft spans
none_of [] none = tt
none_of (s ∷ spans) none = (
  cases (left_of s) refl,
  none_of spans (λ any. none (
    suc any.0,
    any.1,
    (let low = any.2 in omega (arith, low)),
    any.3,
    any.4,
  )),
)
  where
    cases : (es : List Entry) → left_of s ≡ es → left_of s ≡ []
    cases [] is = is
    cases (e ∷ es) is =
        let long : length (left_of s) ≡ length s.part.now.run - s.to = length-drop s.to s.part.now.run in
        let some : length (left_of s) ≡ suc (length es) = ap length is in
        absurd (none (0, s, (omega arith), refl, (omega (arith, long, some))))

some_left : (spans : List Span) (at : ℕ) (span : Span) → at < length spans → slice_index_or spans at span ≡ span
    → span.to < length span.part.now.run → 0 < count_left spans
some_left [] at span low is some = absurd (omega (arith, low))
some_left (s ∷ spans) zero span low is some =
    let here : s.to < length s.part.now.run = subst (λ (x : Span). x.to < length x.part.now.run) (sym is) some in
    let sum = count_cons s spans in
    let long : length (left_of s) ≡ length s.part.now.run - s.to = length-drop s.to s.part.now.run in
    omega (arith, here, sum, long)
some_left (s ∷ spans) (suc at) span low is some =
    let rest = some_left spans at span (omega (arith, low)) is some in
    let sum = count_cons s spans in
    omega (arith, rest, sum)

pub left_some : (spans : List Span) → Any HasLeft spans → 0 < count_left spans
left_some spans any = some_left spans any.0 any.1 any.2 any.3 any.4

-- ---- inputs

rises_back : (es fs : List Entry) → Rises (es ++ fs) → Rises fs
unfolding IsStrictlySortedBy
rises_back [] fs rises = rises
rises_back (e ∷ es) fs (above, rises) = rises_back es fs rises

above_front : (key : List ℕ) (es fs : List Entry) → AllByRecursion (λ z. slice_cmp nat_cmp key z ≡ Less) (packed_keys (es ++ fs))
    → AllByRecursion (λ z. slice_cmp nat_cmp key z ≡ Less) (packed_keys es)
above_front key [] fs all = tt
above_front key (e ∷ es) fs (first, all) = (first, above_front key es fs all)

rises_front : (es fs : List Entry) → Rises (es ++ fs) → Rises es
unfolding IsStrictlySortedBy
rises_front [] fs rises = tt
rises_front (e ∷ es) fs (above, rises) = (above_front e.0 es fs above, rises_front es fs rises)

-- both parts of a run of the query are
parts_run : (q : Query) (n : ℕ) (xs ys : List Entry) → IsRun q n (xs ++ ys) → IsRun q n xs × IsRun q n ys
parts_run q n xs ys is =
    let two : InTwo q n xs ys is.groups = in_two q n xs ys is.groups is.are in (
      record { groups = two.first; are = two.firsts; rises = rises_front xs ys is.rises },
      record { groups = two.second; are = two.seconds; rises = rises_back xs ys is.rises },
    )

-- the inputs of a piece, and of what is left then
pub next_inputs : (q : Query) (bound : Option (List ℕ)) (olds nexts : List Span) → AreNext bound olds nexts
    → AllByRecursion (IsInput q) (left_by olds)
    → AllByRecursion (IsInput q) (brought_to nexts) × AllByRecursion (IsInput q) (left_by nexts)
next_inputs q bound olds nexts are all = walk nexts (subst (AllByRecursion (IsInput q)) (left_had bound olds nexts are) all)
  where
    walk : (spans : List Span) → AllByRecursion (IsInput q) (had spans)
        → AllByRecursion (IsInput q) (brought_to spans) × AllByRecursion (IsInput q) (left_by spans)
    walk [] those = (tt, tt)
    walk (s ∷ spans) (first, those) =
        let two = parts_run q (s.part.now.prefix * MAX_ROWS) (groups_of s) (left_of s) first in
        let rest = walk spans those in
        ((two.0, rest.0), (two.1, rest.1))

pub next_few : (bound : Option (List ℕ)) (olds nexts : List Span) → AreNext bound olds nexts → all_rows (left_by olds) ≤ most_rows
    → (all_rows (brought_to nexts) ≤ most_rows) × (all_rows (left_by nexts) ≤ most_rows)
next_few bound olds nexts are few =
    let same = ap all_rows (left_had bound olds nexts are) in
    let brought = had_rows nexts in
    let left = left_rows nexts in
    (omega (arith, few, same, brought), omega (arith, few, same, left))

-- ---- the loop over pieces

append_none : {X : Type 0} (xs ys : List X) → xs ++ ys ≡ [] → (xs ≡ []) × (ys ≡ [])
append_none [] ys none = (refl, none)
append_none (x ∷ xs) ys none = let long = ap length none in absurd (omega (arith, long))

none_both : {X : Type 0} (a b : Bool) (xs ys : List X) → IsTrue a ↔ (xs ≡ []) → IsTrue b ↔ (ys ≡ []) → IsTrue (a && b) ↔ (xs ++ ys ≡ [])
none_both true b xs ys first second = (
  λ is i. first.0 refl i ++ second.0 is i,
  λ none. second.1 (append_none xs ys none).1,
)
none_both false b xs ys first second = (
  λ is. false_is_not_true is,
  λ none. first.1 (append_none xs ys none).0,
)

-- what is done of all, and what is left
pub record SoFar (q : Query) (all spans : List Span) (is_empty : Bool) (rows : List (List Outcome)) : Type 0 where
  pub done : List Entry
  pub unites : Unites q (left_by all) spans done
  pub shown : RowsOf q done rows
  pub none : IsTrue is_empty ↔ (done ≡ [])
  pub inputs : AllByRecursion (IsInput q) (left_by spans)
  pub within : AllByRecursion IsSpan spans
  pub few : all_rows (left_by spans) ≤ most_rows

pub so_far_begins : (q : Query) (all : List Span) → AllByRecursion (IsInput q) (left_by all) → AllByRecursion IsSpan all
    → all_rows (left_by all) ≤ most_rows → SoFar q all all true []
so_far_begins q all inputs within few =
    record {
      done = [];
      unites = unites_none q all;
      shown = rows_none q;
      none = (λ is. refl, λ is. refl);
      inputs = inputs;
      within = within;
      few = few;
    }

pub so_far_next : (q : Query) (all olds nexts : List Span) (is_empty nothing : Bool) (rows more : List (List Outcome))
    → AreOfNext olds nexts
    → SoFar q all olds is_empty rows → ShowPiece q nexts more nothing → SoFar q all nexts (is_empty && nothing) (rows ++ more)
so_far_next q all olds nexts is_empty nothing rows more next so_far piece =
    record {
      done = so_far.done ++ piece.run;
      unites = unites_next q (left_by all) next.bound olds nexts so_far.done piece.run next.next so_far.unites piece.piece;
      shown = rows_next q so_far.done piece.run rows more so_far.shown piece.shown;
      none = none_both is_empty nothing so_far.done piece.run so_far.none piece.none;
      inputs = (next_inputs q next.bound olds nexts next.next so_far.inputs).1;
      within = nexts_within next.bound olds nexts next.next;
      few = (next_few next.bound olds nexts next.next so_far.few).1;
    }

pub so_far_some : (q : Query) (all spans : List Span) (is_empty : Bool) (rows : List (List Outcome)) → (Any HasLeft spans → ⊥)
    → is_empty ≡ false → SoFar q all spans is_empty rows → ShowLeft q all rows
so_far_some q all spans is_empty rows done some so_far =
    shown_some q all so_far.done rows (united_all q (left_by all) spans so_far.done (none_of spans done) so_far.unites)
    (λ none. false_is_not_true (sym some ∙ so_far.none.1 none)) so_far.shown

pub so_far_none : (q : Query) (all spans : List Span) (is_empty : Bool) (rows more : List (List Outcome)) (run : List Entry)
    → (Any HasLeft spans → ⊥) → is_empty ≡ true → SoFar q all spans is_empty rows → run ≡ []
    → ((most : ℕ) (groups : List Group) → most ≤ most_rows → AreGroups q most run groups → more ≡ rows_of q (answered q groups))
    → ShowLeft q all (rows ++ more)
so_far_none q all spans is_empty rows more run done none so_far is last =
    shown_none q all so_far.done rows more (united_all q (left_by all) spans so_far.done (none_of spans done) so_far.unites)
    (so_far.none.0 none) so_far.shown
    (λ most groups low are. last most groups low (subst (λ es. AreGroups q most es groups) (sym is) are))
