-- Runs whose keys lie on end, and whose states do.
use Rattle.std.specs.Prelude.{◌≡◌, refl, ℕ, zero, suc, ◌+◌, ◌-◌, ◌^◌, ◌<◌, ◌≤◌, List, [], ◌∷◌, ◌++◌, length, map, take, drop, Some}
use Rattle.std.specs.Prelude.{slice_get, slice_index_or, slice_range}
use Rattle.std.proofs.Common.{sym, ◌∙◌, ap, subst, arith, append_assoc, append-nil}
use Rattle.std.proofs.lemmas.List.{take-append-drop, length-append, length-take, length-drop}
use Rattle.std.proofs.lemmas.List.Folds.{drop_split}
use Rattle.std.proofs.lemmas.Grind.{flat_map-append, common_steps}
use Rattle.std.proofs.Math.Seq.{take-add, take-append_seam, drop-append_seam, drop-append-add}
use Rattle.std.specs.List.{flat_map, AllByRecursion}
use Rattle.std.specs.List.Sorted.{IsStrictlySortedBy}
use Rattle.std.specs.Ordering.{nat_cmp}
use Rattle.std.specs.Cmp.Lexicographic.{slice_cmp}
use Rattle.packed_rows.specs.ConcatenatedRowsLaws.{between_seams}
use Rattle.group_runs.specs.Runs.{Entry, packed_keys, keys_concatenated, states_concatenated, end_of, ends_of, cut, all_cut, LieAs, AreRun}
use Rattle.group_runs.specs.Runs.{Rises, IsEndFrom, moved}
use Rattle.std.proofs.lemmas.Bool.Decides.{nat_tests}

cut_behind : (keys states : List ℕ) (run : List Entry) → cut (keys ++ keys_concatenated run) (states ++ states_concatenated run)
    (length keys, length states) (ends_of (length keys, length states) run) ≡ run
cut_behind keys states [] = refl
cut_behind keys states (e ∷ run) =
    let rest : cut (keys ++ (e.0 ++ keys_concatenated run)) (states ++ (e.1 ++ states_concatenated run))
    (end_of (length keys, length states) e) (ends_of (end_of (length keys, length states) e) run) ≡ run =
    (λ i. cut (sym (append_assoc keys e.0 (keys_concatenated run)) i) (sym (append_assoc states e.1 (states_concatenated run)) i)
    (sym (length-append keys e.0) i, sym (length-append states e.1) i)
    (ends_of (sym (length-append keys e.0) i, sym (length-append states e.1) i) run))
    ∙ cut_behind (keys ++ e.0) (states ++ e.1) run in
    λ i. (between_seams keys e.0 (keys_concatenated run) i, between_seams states e.1 (states_concatenated run) i) ∷ rest i

-- what lies as a run makes it up
pub cut_is : (keys states : List ℕ) (ends : List (ℕ × ℕ)) (run : List Entry) → LieAs keys states ends run → all_cut keys states ends ≡ run
cut_is keys states ends run lie = (λ i. all_cut (lie.keys_are i) (lie.states_are i) (lie.ends_are i)) ∙ cut_behind [] [] run

pub are_run : (keys states : List ℕ) (ends : List (ℕ × ℕ)) (run : List Entry) → LieAs keys states ends run → Rises run
    → AreRun keys states ends
are_run keys states ends run lie rises =
    let is : all_cut keys states ends ≡ run = cut_is keys states ends run lie in
    record { lie = subst (LieAs keys states ends) (sym is) lie; rises = subst Rises (sym is) rises }

pub ends_append : (from : ℕ × ℕ) (run more : List Entry) → ends_of from (run ++ more) ≡ ends_of from run
    ++ ends_of (from.0 + length (keys_concatenated run), from.1 + length (states_concatenated run)) more
ends_append from [] more =
    let keys : from.0 ≡ from.0 + 0 = omega arith in
    let states : from.1 ≡ from.1 + 0 = omega arith in
    λ i. ends_of (keys i, states i) more
ends_append from (e ∷ run) more =
    let one : length (e.0 ++ keys_concatenated run) ≡ length e.0
    + length (keys_concatenated run) = length-append e.0 (keys_concatenated run) in
    let other : length (e.1 ++ states_concatenated run) ≡ length e.1
    + length (states_concatenated run) = length-append e.1 (states_concatenated run) in
    let keys : from.0 + length e.0 + length (keys_concatenated run) ≡ from.0 + length (e.0 ++ keys_concatenated run) = omega (arith, one) in
    let states : from.1 + length e.1 + length (states_concatenated run) ≡ from.1
    + length (e.1 ++ states_concatenated run) = omega (arith, other) in
    ap (λ ends. end_of from e ∷ ends) (ends_append (end_of from e) run more
    ∙ (λ i. ends_of (end_of from e) run ++ ends_of (keys i, states i) more))

-- some groups more
pub more_lie : (keys states : List ℕ) (ends : List (ℕ × ℕ)) (run more : List Entry) → LieAs keys states ends run
    → LieAs (keys ++ keys_concatenated more) (states ++ states_concatenated more) (ends ++ ends_of (length keys, length states) more) (run
    ++ more)
more_lie keys states ends run more lie =
    let key : 0 + length (keys_concatenated run) ≡ length keys = let same = ap length lie.keys_are in omega (arith, same) in
    let state : 0 + length (states_concatenated run) ≡ length states = let same = ap length lie.states_are in omega (arith, same) in
    record {
      keys_are = ap (λ bytes. bytes ++ keys_concatenated more) lie.keys_are ∙ sym (flat_map-append (λ (e : Entry). e.0) run more);
      states_are = ap (λ bytes. bytes ++ states_concatenated more) lie.states_are ∙ sym (flat_map-append (λ (e : Entry). e.1) run more);
      ends_are = (λ i. lie.ends_are i ++ ends_of (sym key i, sym state i) more) ∙ sym (ends_append (0, 0) run more);
    }

pub lie_by : (keys states : List ℕ) (ends : List (ℕ × ℕ)) (run : List Entry) (keys' states' : List ℕ) (ends' : List (ℕ × ℕ))
    → LieAs keys states ends run → keys' ≡ keys → states' ≡ states → ends' ≡ ends → LieAs keys' states' ends' run
lie_by keys states ends run keys' states' ends' lie k s e = record {
  keys_are = k ∙ lie.keys_are;
  states_are = s
      ∙ lie.states_are;
  ends_are = e ∙ lie.ends_are;
}

-- one group more
pub pushed : (keys states : List ℕ) (ends : List (ℕ × ℕ)) (run : List Entry) (key these keys' states' : List ℕ) (ends' : List (ℕ × ℕ))
    (to : ℕ × ℕ) → LieAs keys states ends run
    → keys' ≡ keys ++ key → states' ≡ states ++ these → ends' ≡ ends ++ to ∷ [] → to.0 ≡ length keys' → to.1 ≡ length states'
    → LieAs keys' states' ends' (run ++ (key, these) ∷ [])
pushed keys states ends run key these keys' states' ends' to lie k s e first second =
    let one : to.0 ≡ length keys + length key = first ∙ ap length k ∙ length-append keys key in
    let other : to.1 ≡ length states + length these = second ∙ ap length s ∙ length-append states these in
    lie_by (keys ++ (key ++ [])) (states ++ (these ++ [])) (ends ++ ends_of (length keys, length states) ((key, these) ∷ [])) (run
    ++ (key, these) ∷ []) keys' states' ends'
    (more_lie keys states ends run ((key, these) ∷ []) lie)
    (k ∙ ap (λ bytes. keys ++ bytes) (sym (append-nil key)))
    (s ∙ ap (λ bytes. states ++ bytes) (sym (append-nil these)))
    (e ∙ (λ i. ends ++ (one i, other i) ∷ []))

-- no groups
pub none_are : (keys states : List ℕ) (ends : List (ℕ × ℕ)) → keys ≡ [] → states ≡ [] → ends ≡ [] → AreRun keys states ends
unfolding IsStrictlySortedBy
none_are keys states ends k s e = are_run keys states ends [] (record { keys_are = k; states_are = s; ends_are = e }) tt

-- ---- parts of a run

module _ (f : Entry → List ℕ) (run : List Entry) (a b : ℕ) (low : a ≤ b) where
  front_taken : take b run ≡ take a run ++ slice_range run a b
  front_taken = let whole : b ≡ a + (b - a) = omega (arith, low) in ap (λ n. take n run) whole ∙ take-add a (b - a) run

  all_parts : flat_map f run ≡ flat_map f (take a run) ++ (flat_map f (slice_range run a b) ++ flat_map f (drop b run))
  all_parts =
      ap (flat_map f) (sym (take-append-drop a run) ∙ ap (λ rest. take a run ++ rest) (drop_split run a b low))
      ∙ flat_map-append f (take a run) (slice_range run a b ++ drop b run)
      ∙ ap (λ rest. flat_map f (take a run) ++ rest) (flat_map-append f (slice_range run a b) (drop b run))

  pub front_long : length (flat_map f (take b run)) ≡ length (flat_map f (take a run)) + length (flat_map f (slice_range run a b))
  front_long =
      ap (λ es. length (flat_map f es)) front_taken
      ∙ ap length (flat_map-append f (take a run) (slice_range run a b))
      ∙ length-append (flat_map f (take a run)) (flat_map f (slice_range run a b))

  pub within_all : length (flat_map f (take b run)) ≤ length (flat_map f run)
  within_all =
      let long = front_long in
      let all : length (flat_map f run) ≡ length (flat_map f (take a run))
      + length (flat_map f (slice_range run a b) ++ flat_map f (drop b run)) = ap length all_parts
      ∙ length-append (flat_map f (take a run)) (flat_map f (slice_range run a b) ++ flat_map f (drop b run)) in
      let rest = length-append (flat_map f (slice_range run a b)) (flat_map f (drop b run)) in
      omega (arith, long, all, rest)

  -- the bytes of some groups of a run
  pub range_is : slice_range (flat_map f run) (length (flat_map f (take a run))) (length (flat_map f (take b run)))
      ≡ flat_map f (slice_range run a b)
  range_is =
      (λ i. slice_range (all_parts i) (length (flat_map f (take a run))) (front_long i))
      ∙ between_seams (flat_map f (take a run)) (flat_map f (slice_range run a b)) (flat_map f (drop b run))

-- where the first groups end
bound_behind : (from : ℕ × ℕ) (run : List Entry) (p : ℕ) (d : ℕ × ℕ) → p ≤ length run → slice_index_or (from ∷ ends_of from run) p d
    ≡ (from.0 + length (keys_concatenated (take p run)), from.1 + length (states_concatenated (take p run)))
bound_behind from run zero d low =
    let keys : from.0 ≡ from.0 + 0 = omega arith in
    let states : from.1 ≡ from.1 + 0 = omega arith in
    λ i. (keys i, states i)
bound_behind from [] (suc p) d low = absurd (omega (arith, low))
bound_behind from (e ∷ run) (suc p) d low =
    let one : length (e.0 ++ keys_concatenated (take p run)) ≡ length e.0 + length (keys_concatenated (take p run)) = length-append e.0
    (keys_concatenated (take p run)) in
    let other : length (e.1 ++ states_concatenated (take p run)) ≡ length e.1
    + length (states_concatenated (take p run)) = length-append e.1 (states_concatenated (take p run)) in
    let keys : from.0 + length e.0 + length (keys_concatenated (take p run)) ≡ from.0
    + length (e.0 ++ keys_concatenated (take p run)) = omega (arith, one) in
    let states : from.1 + length e.1 + length (states_concatenated (take p run)) ≡ from.1
    + length (e.1 ++ states_concatenated (take p run)) = omega (arith, other) in
    bound_behind (end_of from e) run p d (omega (arith, low)) ∙ (λ i. (keys i, states i))

pub bound_is : (keys states : List ℕ) (ends : List (ℕ × ℕ)) (run : List Entry) (p : ℕ) → LieAs keys states ends run → p ≤ length run
    → slice_index_or ((0, 0) ∷ ends) p (0, 0) ≡ (length (keys_concatenated (take p run)), length (states_concatenated (take p run)))
bound_is keys states ends run p lie low =
    let one : 0 + length (keys_concatenated (take p run)) ≡ length (keys_concatenated (take p run)) = omega arith in
    let other : 0 + length (states_concatenated (take p run)) ≡ length (states_concatenated (take p run)) = omega arith in
    ap (λ ends. slice_index_or ((0, 0) ∷ ends) p (0, 0)) lie.ends_are
    ∙ bound_behind (0, 0) run p (0, 0) low
    ∙ (λ i. (one i, other i))

pub ends_long : (from : ℕ × ℕ) (run : List Entry) → length (ends_of from run) ≡ length run
ends_long from [] = refl
ends_long from (e ∷ run) = let rest : length (ends_of (end_of from e) run)
    ≡ length run = ends_long (end_of from e) run in omega (arith, rest)

pub cut_long : (keys states : List ℕ) (from : ℕ × ℕ) (ends : List (ℕ × ℕ)) → length (cut keys states from ends) ≡ length ends
cut_long keys states from [] = refl
cut_long keys states from (to ∷ ends) = let rest : length (cut keys states to ends)
    ≡ length ends = cut_long keys states to ends in omega (arith, rest)

-- some groups of a run lie between the ends of others
pub record RangeAt (keys states : List ℕ) (a b : ℕ × ℕ) (some : List Entry) : Type 0 where
  pub keys_low : a.0 ≤ b.0
  pub keys_high : b.0 ≤ length keys
  pub states_low : a.1 ≤ b.1
  pub states_high : b.1 ≤ length states
  pub keys_there : slice_range keys a.0 b.0 ≡ keys_concatenated some
  pub states_there : slice_range states a.1 b.1 ≡ states_concatenated some

pub range_at : (keys states : List ℕ) (ends : List (ℕ × ℕ)) (run : List Entry) (p q : ℕ) → LieAs keys states ends run → p ≤ q
    → q ≤ length run
    → RangeAt keys states (slice_index_or ((0, 0) ∷ ends) p (0, 0)) (slice_index_or ((0, 0) ∷ ends) q (0, 0)) (slice_range run p q)
range_at keys states ends run p q lie low high =
    let from = bound_is keys states ends run p lie (omega (arith, low, high)) in
    let to = bound_is keys states ends run q lie high in
    let key : Entry → List ℕ = λ e. e.0 in
    let state : Entry → List ℕ = λ e. e.1 in
    let key_long = front_long key run p q low in
    let state_long = front_long state run p q low in
    let key_within = within_all key run p q low in
    let state_within = within_all state run p q low in
    let key_all = ap length lie.keys_are in
    let state_all = ap length lie.states_are in
    subst (λ a. RangeAt keys states a (slice_index_or ((0, 0) ∷ ends) q (0, 0)) (slice_range run p q)) (sym from)
    (subst (λ b. RangeAt keys states (length (keys_concatenated (take p run)), length (states_concatenated (take p run))) b
    (slice_range run p q)) (sym to)
    (record {
      keys_low = omega (arith, key_long);
      keys_high = omega (arith, key_within, key_all);
      states_low = omega (arith, state_long);
      states_high = omega (arith, state_within, state_all);
      keys_there = ap (λ bytes. slice_range bytes (length (keys_concatenated (take p run))) (length (keys_concatenated (take q run))))
          lie.keys_are ∙ range_is key run p q low;
      states_there = ap (λ bytes. slice_range bytes (length (states_concatenated (take p run))) (length (states_concatenated (take q run))))
          lie.states_are ∙ range_is state run p q low;
    }))

-- the one group at a place
pub record OneAt (run : List Entry) (p : ℕ) : Type 0 where
  pub entry : Entry
  pub at : slice_get run p ≡ Some entry
  pub alone : slice_range run p (p + 1) ≡ entry ∷ []

pub one_at : (run : List Entry) (p : ℕ) → p < length run → OneAt run p
one_at run p low =
    let found = first_of run p low in
    let one : p + 1 - p ≡ 1 = omega arith in
    record { entry = found.0; at = found.1; alone = ap (λ n. take n (drop p run)) one ∙ found.2 }
  where
    first_of : (run : List Entry) (p : ℕ) → p < length run → (e : Entry) × (slice_get run p ≡ Some e) × (take 1 (drop p run) ≡ e ∷ [])
    first_of [] p low = absurd (omega (arith, low))
    first_of (e ∷ run) zero low = (e, refl, refl)
    first_of (e ∷ run) (suc p) low = first_of run p (omega (arith, low))

-- the same where the ends were read
pub range_found : (keys states : List ℕ) (ends : List (ℕ × ℕ)) (run : List Entry) (p q : ℕ) (a b : ℕ × ℕ) → LieAs keys states ends run
    → length run ≡ length ends → p ≤ q → q ≤ length ends → a ≡ slice_index_or ((0, 0) ∷ ends) p (0, 0) → b
    ≡ slice_index_or ((0, 0) ∷ ends) q (0, 0)
    → RangeAt keys states a b (slice_range run p q)
range_found keys states ends run p q a b lie long low high from to =
    subst (λ a. RangeAt keys states a b (slice_range run p q)) (sym from)
    (subst (λ b. RangeAt keys states (slice_index_or ((0, 0) ∷ ends) p (0, 0)) b (slice_range run p q)) (sym to)
    (range_at keys states ends run p q lie low (omega (arith, long, high))))

-- the ends of some groups, as they would be from elsewhere
pub range_ends : (keys states : List ℕ) (ends : List (ℕ × ℕ)) (run : List Entry) (p q : ℕ) (start : ℕ × ℕ) → LieAs keys states ends run
    → p ≤ q → q ≤ length run → start ≡ slice_index_or ((0, 0) ∷ ends) p (0, 0)
    → slice_range ends p q ≡ ends_of start (slice_range run p q)
range_ends keys states ends run p q start lie low high is =
    let front : List Entry = take p run in
    let some : List Entry = slice_range run p q in
    let rest : List Entry = drop q run in
    let behind : ℕ × ℕ = (0 + length (keys_concatenated front), 0 + length (states_concatenated front)) in
    let key : 0 + length (keys_concatenated front) ≡ length (keys_concatenated front) = omega arith in
    let state : 0 + length (states_concatenated front) ≡ length (states_concatenated front) = omega arith in
    let at : behind ≡ start = (λ i. (key i, state i)) ∙ sym (is ∙ bound_is keys states ends run p lie (omega (arith, low, high))) in
    let whole : ends ≡ ends_of (0, 0) front
    ++ (ends_of behind some ++ ends_of (behind.0 + length (keys_concatenated some), behind.1 + length (states_concatenated some)) rest)
    =
    lie.ends_are
    ∙ ap (ends_of (0, 0)) (sym (take-append-drop p run) ∙ ap (λ es. front ++ es) (drop_split run p q low))
    ∙ ends_append (0, 0) front (some ++ rest)
    ∙ ap (λ more. ends_of (0, 0) front ++ more) (ends_append behind some rest) in
    let first : p ≡ length (ends_of (0, 0) front) = let long = ends_long (0, 0) front in let took = length-take p run in omega
    (arith, long, took, low, high) in
    let last : q ≡ length (ends_of (0, 0) front) + length (ends_of behind some) =
    let long = ends_long behind some in
    let took = length-take (q - p) (drop p run) in
    let left = length-drop p run in
    omega (arith, first, long, took, left, low, high) in
    (λ i. slice_range (whole i) (first i) (last i))
    ∙ between_seams (ends_of (0, 0) front) (ends_of behind some) _
    ∙ ap (λ s. ends_of s some) at

moved_behind : (start behind from : ℕ × ℕ) (run : List Entry) → start.0 ≤ from.0 → start.1 ≤ from.1
    → map (moved start behind) (ends_of from run) ≡ ends_of (moved start behind from) run
moved_behind start behind from [] first second = refl
moved_behind start behind from (e ∷ run) first second =
    let key : behind.0 + (from.0 + length e.0 - start.0) ≡ behind.0 + (from.0 - start.0) + length e.0 = omega (arith, first) in
    let state : behind.1 + (from.1 + length e.1 - start.1) ≡ behind.1 + (from.1 - start.1) + length e.1 = omega (arith, second) in
    (λ i. (key i, state i) ∷ moved_behind start behind (end_of from e) run (omega (arith, first)) (omega (arith, second)) i)
    ∙ (λ i. end_of (moved start behind from) e ∷ ends_of (key i, state i) run)

pub moved_ends : (start behind : ℕ × ℕ) (run : List Entry) → map (moved start behind) (ends_of start run) ≡ ends_of behind run
moved_ends start behind run =
    let key : behind.0 + (start.0 - start.0) ≡ behind.0 = omega arith in
    let state : behind.1 + (start.1 - start.1) ≡ behind.1 = omega arith in
    moved_behind start behind start run (omega arith) (omega arith) ∙ (λ i. ends_of (key i, state i) run)

ends_behind : (start from : ℕ × ℕ) (run : List Entry) → start.0 ≤ from.0 → start.1 ≤ from.1 → from.0
    + length (keys_concatenated run) < 2 ^ 63 → from.1 + length (states_concatenated run) < 2 ^ 63
    → AllByRecursion (IsEndFrom start) (ends_of from run)
ends_behind start from [] first second few less = tt
ends_behind start from (e ∷ run) first second few less =
    let key = length-append e.0 (keys_concatenated run) in
    let state = length-append e.1 (states_concatenated run) in (
      (omega (arith, first), omega (arith, few, key), omega (arith, second), omega (arith, less, state)),
      ends_behind start (end_of from e) run (omega (arith, first)) (omega (arith, second)) (omega (arith, few, key))
          (omega (arith, less, state)),
    )

-- they are ends from the first's beginning on
pub range_fits : (keys states : List ℕ) (ends : List (ℕ × ℕ)) (run : List Entry) (p q : ℕ) (start : ℕ × ℕ) → LieAs keys states ends run
    → p ≤ q → q ≤ length run → start ≡ slice_index_or ((0, 0) ∷ ends) p (0, 0) → length keys < 2 ^ 63 → length states < 2 ^ 63
    → AllByRecursion (IsEndFrom start) (slice_range ends p q)
range_fits keys states ends run p q start lie low high is few less =
    let at = is ∙ bound_is keys states ends run p lie (omega (arith, low, high)) in
    let key : start.0 ≡ length (keys_concatenated (take p run)) = ap (λ s. s.0) at in
    let state : start.1 ≡ length (states_concatenated (take p run)) = ap (λ s. s.1) at in
    let key_long = front_long (λ e. e.0) run p q low in
    let state_long = front_long (λ e. e.1) run p q low in
    let key_within = within_all (λ e. e.0) run p q low in
    let state_within = within_all (λ e. e.1) run p q low in
    let key_all = ap length lie.keys_are in
    let state_all = ap length lie.states_are in
    subst (AllByRecursion (IsEndFrom start)) (sym (range_ends keys states ends run p q start lie low high is))
    (ends_behind start start (slice_range run p q) (omega arith) (omega arith) (omega (arith, key, key_long, key_within, key_all, few))
    (omega (arith, state, state_long, state_within, state_all, less)))

-- some groups of another run at the end
pub pushed_range : (keys states : List ℕ) (ends : List (ℕ × ℕ)) (run : List Entry) (others those : List ℕ) (places : List (ℕ × ℕ))
    (other : List Entry) (p q : ℕ) (start behind : ℕ × ℕ) (key these keys' states' : List ℕ) (ends' : List (ℕ × ℕ))
    → LieAs keys states ends run → LieAs others those places other → p ≤ q → q ≤ length other → start
    ≡ slice_index_or ((0, 0) ∷ places) p (0, 0)
    → behind.0 ≡ length keys → behind.1 ≡ length states → key ≡ keys_concatenated (slice_range other p q) → these
    ≡ states_concatenated (slice_range other p q)
    → keys' ≡ keys ++ key → states' ≡ states ++ these → ends' ≡ ends ++ map (moved start behind) (slice_range places p q)
    → LieAs keys' states' ends' (run ++ slice_range other p q)
pushed_range keys states ends run others those places other p q start behind key these keys' states' ends' lie lies low high is first second
    k s keys_are states_are ends_are =
    let some : List Entry = slice_range other p q in
    lie_by (keys ++ keys_concatenated some) (states ++ states_concatenated some) (ends ++ ends_of (length keys, length states) some) (run
    ++ some) keys' states' ends' (more_lie keys states ends run some lie)
    (keys_are ∙ ap (λ bytes. keys ++ bytes) k)
    (states_are ∙ ap (λ bytes. states ++ bytes) s)
    (ends_are
    ∙ ap (λ more. ends ++ more)
    (ap (map (moved start behind)) (range_ends others those places other p q start lies low high is)
    ∙ moved_ends start behind some
    ∙ (λ i. ends_of (first i, second i) some)))

-- ---- the states at a place

-- a group's states between the ends around them
pub record MiddleAt (states : List ℕ) (a b : ℕ) (front : List Entry) (e : Entry) (back : List Entry) : Type 0 where
  pub from : a ≡ length (states_concatenated front)
  pub to : b ≡ length (states_concatenated front) + length e.1
  pub there : states ≡ states_concatenated front ++ (e.1 ++ states_concatenated back)

pub middle_at : (keys states : List ℕ) (ends : List (ℕ × ℕ)) (front : List Entry) (e : Entry) (back : List Entry) (p : ℕ) (a b : ℕ × ℕ)
    → LieAs keys states ends (front ++ e ∷ back) → length front ≡ p
    → a ≡ slice_index_or ((0, 0) ∷ ends) p (0, 0) → b ≡ slice_index_or ((0, 0) ∷ ends) (p + 1) (0, 0) → MiddleAt states a.1 b.1 front e back
middle_at keys states ends front e back p a b lie long from to =
    let all = length-append front (e ∷ back) in
    let some : List Entry = front ++ e ∷ [] in
    let more : p + 1 ≡ length some = let both = length-append front (e ∷ []) in omega (arith, both, long) in
    let first : take p (front ++ e ∷ back) ≡ front = ap (λ n. take n (front ++ e ∷ back)) (sym long) ∙ take-append_seam front (e ∷ back) in
    let second : take (p + 1) (front ++ e ∷ back) ≡ some = (λ i. take (more i) (sym (append_assoc front (e ∷ []) back) i))
    ∙ take-append_seam some back in
    let states_some : length (states_concatenated some) ≡ length (states_concatenated front) + length e.1 =
    ap length (flat_map-append (λ (e : Entry). e.1) front (e ∷ []) ∙ ap (λ bytes. states_concatenated front ++ bytes) (append-nil e.1))
    ∙ length-append (states_concatenated front) e.1 in
    record {
      from = ap (λ s. s.1) (from ∙ bound_is keys states ends (front ++ e ∷ back) p lie (omega (arith, all, long)))
          ∙ ap (λ es. length (states_concatenated es)) first;
      to = ap (λ s. s.1) (to ∙ bound_is keys states ends (front ++ e ∷ back) (p + 1) lie (omega (arith, all, long)))
          ∙ ap (λ es. length (states_concatenated es)) second ∙ states_some;
      there = lie.states_are ∙ flat_map-append (λ (e : Entry). e.1) front (e ∷ back);
    }

pub middle_is : (states : List ℕ) (a b : ℕ) (front : List Entry) (e : Entry) (back : List Entry) → MiddleAt states a b front e back
    → slice_range states a b ≡ e.1
middle_is states a b front e back middle = (λ i. slice_range (middle.there i) (middle.from i) (middle.to i))
    ∙ between_seams (states_concatenated front) e.1 (states_concatenated back)

pub middle_high : (states : List ℕ) (a b : ℕ) (front : List Entry) (e : Entry) (back : List Entry) → MiddleAt states a b front e back
    → b ≤ length states
middle_high states a b front e back middle = grind (arith, nat_tests, common_steps)

-- other states of the same length in their place
pub written_at : (keys states : List ℕ) (ends : List (ℕ × ℕ)) (front : List Entry) (e : Entry) (back : List Entry) (a b : ℕ)
    (new states' : List ℕ) → LieAs keys states ends (front ++ e ∷ back) → MiddleAt states a b front e back → length new ≡ b - a
    → states' ≡ take a states ++ (new ++ drop b states) → LieAs keys states' ends (front ++ (e.0, new) ∷ back)
written_at keys states ends front e back a b new states' lie middle long is =
    let from = middle.from in
    let to = middle.to in
    let same : length e.1 ≡ length new = omega (arith, long, from, to) in
    let before : take a states ≡ states_concatenated front = (λ i. take (from i) (middle.there i))
    ∙ take-append_seam (states_concatenated front) (e.1 ++ states_concatenated back) in
    let after : drop b states ≡ states_concatenated back = (λ i. drop (to i) (middle.there i))
    ∙ drop-append-add (states_concatenated front) (e.1 ++ states_concatenated back) (length e.1)
    ∙ drop-append_seam e.1 (states_concatenated back) in
    record {
      keys_are = lie.keys_are ∙ flat_map-append (λ (e : Entry). e.0) front (e ∷ back)
          ∙ sym (flat_map-append (λ (e : Entry). e.0) front ((e.0, new) ∷ back));
      states_are = is ∙ (λ i. before i ++ (new ++ after i)) ∙ sym (flat_map-append (λ (e : Entry). e.1) front ((e.0, new) ∷ back));
      ends_are =
          lie.ends_are
          ∙ ends_append (0, 0) front (e ∷ back)
          ∙ (λ i. ends_of (0, 0) front ++ (
            0 + length (keys_concatenated front) + length e.0,
            0 + length (states_concatenated front)
                + same i,
          ) ∷ ends_of (0 + length (keys_concatenated front) + length e.0, 0 + length (states_concatenated front) + same i) back)
          ∙ sym (ends_append (0, 0) front ((e.0, new) ∷ back));
    }

-- a run with other states of a group
pub same_keys : (front : List Entry) (key these those : List ℕ) (back : List Entry) → packed_keys (front ++ (key, these) ∷ back)
    ≡ packed_keys (front ++ (key, those) ∷ back)
same_keys [] key these those back = refl
same_keys (e ∷ front) key these those back = ap (λ ks. e.0 ∷ ks) (same_keys front key these those back)

pub same_keys_rise : (front : List Entry) (key these those : List ℕ) (back : List Entry) → Rises (front ++ (key, these) ∷ back)
    → Rises (front ++ (key, those) ∷ back)
same_keys_rise front key these those back rises = subst (IsStrictlySortedBy (slice_cmp nat_cmp)) (same_keys front key these those back)
    rises

-- a group by its bytes
pub group_is : (run : List Entry) (p : ℕ) (key these : List ℕ) → p < length run → key ≡ keys_concatenated (slice_range run p (p + 1))
    → these ≡ states_concatenated (slice_range run p (p + 1)) → slice_get run p ≡ Some (key, these)
group_is run p key these low k s =
    let one = one_at run p low in
    one.at
    ∙ (λ i. Some (
      sym (k ∙ ap keys_concatenated one.alone ∙ append-nil one.entry.0) i,
      sym (s ∙ ap states_concatenated one.alone
          ∙ append-nil one.entry.1) i,
    ))
