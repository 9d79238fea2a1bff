-- The passes of an aggregation: what each leaves, that they end, and that they take each key once.
use Rattle.std.specs.Prelude.{◌≡◌, refl, ℕ, zero, suc, ◌+◌, ◌≤◌, ◌<◌, ◌-◌, ◌/◌, ◌%◌, ◌^◌, ◌==◌, nat_lt, Bool, true, false, cond, not, ◌||◌}
use Rattle.std.specs.Prelude.{List, [], ◌∷◌, ◌++◌, map, take, drop, filter, flat_map, length, IsPermutation}
use Rattle.std.proofs.Common.{sym, ◌∙◌, ap, subst, arith}
use Rattle.std.specs.List.{AllByRecursion, prefix_len, range_with_len, IsDistinct}
use Rattle.std.proofs.lemmas.Bool.{both_ways}
use Rattle.std.proofs.lemmas.List.{take-append-drop, nil_from_length}
use Rattle.std.proofs.lemmas.List.Sums.{length-filter, count_by-le-length}
use Rattle.std.proofs.lemmas.List.Elements.{filter-append, All-filter, All-head}
use Rattle.std.proofs.lemmas.List.Sorted.{IsPermutation-refl, IsPermutation-trans, IsPermutation-append_right}
use Rattle.list_laws.specs.Each.{each_weaker}
use Rattle.aggregation_cost.specs.Space.{Key, Setting, fits, fronts}
use Rattle.aggregation_cost.specs.Passes.{Record, keys_of, same_key, is_one_of, first_of_each, taken, without, list_of, on_list, lists}
use Rattle.aggregation_cost.specs.Passes.{Pass, taken_by, spilled_by, lists_of, is_empty, one_deeper, left_by, down_to, passes_from}
use Rattle.aggregation_cost.specs.Passes.{EachFits, AllFit}
use Rattle.aggregation_cost.specs.ListLaws.{filter_none, each_both, each_of_filter}
use Rattle.aggregation_cost.specs.Lemmas.Lists.{map-filter, each_of_map, each_under_map, each_everywhere, flat_map_same, flat_map-flat_map}
use Rattle.aggregation_cost.specs.Lemmas.Lists.{flat_map-map, flat_map-filter, flat_map_permutes, split_permutes}
use Rattle.aggregation_cost.specs.KeyLaws.{same_key_itself, distinct-filter, distinct-apart, each_in_front, one_of-distinct, not_in_front}
use Rattle.aggregation_cost.specs.Lemmas.Fronts.{first_taken, all_taken}

pub filter_short : {X : Type 0} (p : X → Bool) (xs : List X) → length (filter p xs) ≤ length xs
filter_short p xs = subst (λ n. n ≤ length xs) (sym (length-filter p xs)) (count_by-le-length p xs)

-- ---- the lists

pub list_below : (setting : Setting) (level : ℕ) (key : Key) → list_of setting level key < 16
list_below setting level key = elim (nat_lt level 8) as (λ b. cond b (setting.hash key / 16 ^ (7 - level) % 16) 0 < 16)
    [ true ↦ omega arith | false ↦ omega arith ]

pub lists_permute : (setting : Setting) (level : ℕ) (records : List Record)
    → IsPermutation records (flat_map (on_list setting level records) (range_with_len 0 16))
lists_permute setting level records =
    split_permutes (λ (entry : Record). list_of setting level entry.key) 0 16 records
    (each_everywhere (λ (entry : Record). (0 ≤ list_of setting level entry.key) × (list_of setting level entry.key < 0 + 16))
    (λ entry. let below = list_below setting level entry.key in (omega arith, omega arith)) records)

pub on_list-append : (setting : Setting) (level : ℕ) (xs ys : List Record) (i : ℕ) → on_list setting level (xs ++ ys) i
    ≡ on_list setting level xs i ++ on_list setting level ys i
on_list-append setting level xs ys i = filter-append (λ (entry : Record). list_of setting level entry.key == i) xs ys

-- ---- what a pass leaves

-- what holds of each list that isn't empty, holds of each pass that is left
pub each_left : (P : Pass → Type 0) (setting : Setting) (pass : Pass)
    → ((i : ℕ) → is_empty (on_list setting pass.level (spilled_by setting pass) i) ≡ false
    → P (one_deeper pass.level (on_list setting pass.level (spilled_by setting pass) i))) → AllByRecursion P (left_by setting pass)
each_left P setting pass gives =
    each_of_map (one_deeper pass.level) P (filter filled (lists_of setting pass))
    (each_weaker (λ (records : List Record). (is_empty records ≡ false → P (one_deeper pass.level records))
    × (not (is_empty records) ≡ true)) (λ records. P (one_deeper pass.level records))
    (λ records both. both.0 (empty_is_not (is_empty records) both.1)) (filter filled (lists_of setting pass))
    (each_of_filter (λ (records : List Record). is_empty records ≡ false → P (one_deeper pass.level records)) filled (lists_of setting pass)
    (each_of_map (on_list setting pass.level (spilled_by setting pass)) (λ (records : List Record). is_empty records ≡ false
    → P (one_deeper pass.level records)) (range_with_len 0 16)
    (each_everywhere (λ i. is_empty (on_list setting pass.level (spilled_by setting pass) i) ≡ false
    → P (one_deeper pass.level (on_list setting pass.level (spilled_by setting pass) i))) gives (range_with_len 0 16)))))
  where
    filled : List Record → Bool
    filled records = not (is_empty records)

    empty_is_not : (b : Bool) → not b ≡ true → b ≡ false
    empty_is_not true e = sym e
    empty_is_not false e = refl

-- where nothing is spilled, nothing is left
pub none_left : (setting : Setting) (pass : Pass) → spilled_by setting pass ≡ [] → left_by setting pass ≡ []
none_left setting pass none = ap
    (λ records. map (one_deeper pass.level) (filter (λ (list : List Record). not (is_empty list)) (lists setting pass.level records))) none

none_spilled : (setting : Setting) (pass : Pass) → pass.records ≡ [] → spilled_by setting pass ≡ []
none_spilled setting pass none = ap (λ records. without (taken setting (first_of_each (keys_of records))) records) none

-- each pass that is left has fewer records, and each key fits by itself there too
pub spills_fewer : (setting : Setting) (records : List Record) → EachFits setting records → (entry : Record) (rest : List Record) → records
    ≡ entry ∷ rest → length (without (taken setting (first_of_each (keys_of records))) records) ≤ length rest
spills_fewer setting records fit entry rest e =
    let alone : fits setting (entry.key ∷ []) ≡ true = All-head (λ (entry : Record). fits setting (entry.key ∷ []) ≡ true) entry rest
    (subst (EachFits setting) e fit) in
    let more : List Key = filter (λ other. not (same_key entry.key other)) (first_of_each (keys_of rest)) in
    let first = first_taken setting entry.key more alone in
    let gone : without (taken setting (first_of_each (keys_of records))) records
    ≡ filter (λ (other : Record). not
    (is_one_of (entry.key ∷ take (prefix_len (fits setting) (map (λ front. entry.key ∷ front) (fronts more))) more) other.key)) (entry
    ∷ rest) =
    ap (λ records. without (taken setting (first_of_each (keys_of records))) records) e ∙ ap (λ keys. without keys (entry ∷ rest)) first
    in subst (λ list. length list ≤ length rest) (sym gone)
    (skips_first entry rest (take (prefix_len (fits setting) (map (λ front. entry.key ∷ front) (fronts more))) more))
  where
    skips_first : (entry : Record) (rest : List Record) (others : List Key) → length (without (entry.key ∷ others) (entry ∷ rest)) ≤ length
        rest
    skips_first entry rest others =
        subst (λ b. length (cond (not (b || is_one_of others entry.key)) (entry ∷ without (entry.key ∷ others) rest)
        (without (entry.key ∷ others) rest)) ≤ length rest) (sym (same_key_itself entry.key))
        (filter_short (λ (other : Record). not (is_one_of (entry.key ∷ others) other.key)) rest)

pub each_left_fits : (setting : Setting) (pass : Pass) (n : ℕ) → EachFits setting pass.records → length pass.records ≤ suc n
    → AllByRecursion (λ next. (length next.records ≤ n) × EachFits setting next.records) (left_by setting pass)
each_left_fits setting pass n fit within = by_records pass.records refl
  where
    by_records : (records : List Record) → pass.records ≡ records → AllByRecursion (λ next. (length next.records ≤ n)
        × EachFits setting next.records) (left_by setting pass)
    by_records [] e = subst (AllByRecursion (λ next. (length next.records ≤ n) × EachFits setting next.records))
        (sym (none_left setting pass (none_spilled setting pass e))) tt
    by_records (entry ∷ rest) e =
        let fewer : length (spilled_by setting pass) ≤ length rest = spills_fewer setting pass.records fit entry rest e in
        let all : length pass.records ≡ suc (length rest) = ap length e in
        each_left (λ next. (length next.records ≤ n) × EachFits setting next.records) setting pass
        (λ i filled.
        let short = filter_short (λ (entry : Record). list_of setting pass.level entry.key == i) (spilled_by setting pass) in (
          omega arith,
          All-filter (λ (entry : Record). list_of setting pass.level entry.key == i) (λ (entry : Record). fits setting (entry.key ∷ [])
              ≡ true) (spilled_by setting pass)
              (All-filter (λ (entry : Record). not (is_one_of (taken_by setting pass) entry.key))
              (λ (entry : Record). fits setting (entry.key ∷ []) ≡ true) pass.records fit),
        ))

-- ---- the passes end

no_records : (pass : Pass) → length pass.records ≤ 0 → pass.records ≡ []
no_records pass none = nil_from_length pass.records (omega arith)

alone : (setting : Setting) (pass : Pass) (n : ℕ) → left_by setting pass ≡ [] → down_to n setting pass ≡ pass ∷ []
alone setting pass zero none = refl
alone setting pass (suc n) none = ap (λ passes. pass ∷ flat_map (down_to n setting) passes) none

pub no_deeper : (setting : Setting) (pass : Pass) (m n : ℕ) → EachFits setting pass.records → length pass.records ≤ m
    → length pass.records ≤ n → down_to m setting pass ≡ down_to n setting pass
no_deeper setting pass zero n fit low high = sym
    (alone setting pass n (none_left setting pass (none_spilled setting pass (no_records pass low))))
no_deeper setting pass (suc m) zero fit low high = alone setting pass (suc m)
    (none_left setting pass (none_spilled setting pass (no_records pass high)))
no_deeper setting pass (suc m) (suc n) fit low high =
    ap (λ passes. pass ∷ passes)
    (flat_map_same (down_to m setting) (down_to n setting) (left_by setting pass)
    (each_weaker (λ next. ((length next.records ≤ m) × EachFits setting next.records)
    × ((length next.records ≤ n) × EachFits setting next.records)) (λ next. down_to m setting next ≡ down_to n setting next)
    (λ next both. no_deeper setting next m n both.0.1 both.0.0 both.1.0) (left_by setting pass)
    (each_both (λ next. (length next.records ≤ m) × EachFits setting next.records) (λ next. (length next.records ≤ n)
    × EachFits setting next.records) (left_by setting pass) (each_left_fits setting pass m fit low)
    (each_left_fits setting pass n fit high))))

pub deep_enough : (setting : Setting) (pass : Pass) (more : ℕ) → EachFits setting pass.records
    → down_to (length pass.records + more) setting pass ≡ passes_from setting pass
deep_enough setting pass more fit = no_deeper setting pass (length pass.records + more) (length pass.records) fit (omega arith)
    (omega arith)

-- a pass, and then those over what it leaves
pub first_and_rest : (setting : Setting) (pass : Pass) → EachFits setting pass.records → passes_from setting pass ≡ pass
    ∷ flat_map (passes_from setting) (left_by setting pass)
first_and_rest setting pass fit =
    let n : ℕ = length pass.records in
    no_deeper setting pass n (suc n) fit (omega arith) (omega arith)
    ∙ ap (λ passes. pass ∷ passes)
    (flat_map_same (down_to n setting) (passes_from setting) (left_by setting pass)
    (each_weaker (λ next. (length next.records ≤ n) × EachFits setting next.records) (λ next. down_to n setting next
    ≡ passes_from setting next)
    (λ next both. no_deeper setting next n (length next.records) both.1 both.0 (omega arith)) (left_by setting pass)
    (each_left_fits setting pass n fit (omega arith))))

-- where all keys fit at once, there is one pass, which spills nothing
pub taken_all_spills_none : (records : List Record) (keys : List Key) → keys ≡ first_of_each (keys_of records) → without keys records ≡ []
taken_all_spills_none records keys all =
    ap (λ keys. without keys records) all
    ∙ filter_none (λ (entry : Record). not (is_one_of (first_of_each (keys_of records)) entry.key)) records
    (each_weaker (λ (entry : Record). is_one_of (keys_of records) entry.key
    ≡ true) (λ (entry : Record). not (is_one_of (first_of_each (keys_of records)) entry.key)
    ≡ false) (λ entry among. ap not (one_of-distinct (keys_of records) entry.key ∙ among)) records
    (each_under_map (λ (entry : Record). entry.key) (λ key. is_one_of (keys_of records) key ≡ true) records
    (each_in_front (keys_of records))))

pub nothing_spilled : (setting : Setting) (pass : Pass) → AllFit setting (first_of_each (keys_of pass.records)) → spilled_by setting pass
    ≡ []
nothing_spilled setting pass fit = taken_all_spills_none pass.records (taken_by setting pass)
    (all_taken setting (first_of_each (keys_of pass.records)) fit)

pub one_pass : (setting : Setting) (pass : Pass) → AllFit setting (first_of_each (keys_of pass.records)) → passes_from setting pass ≡ pass
    ∷ []
one_pass setting pass fit = alone setting pass (length pass.records) (none_left setting pass (nothing_spilled setting pass fit))

-- ---- each key is taken once

-- the distinct keys of a list are those on it of the keys that are not taken
keys_on_list : (setting : Setting) (pass : Pass) (i : ℕ) → first_of_each (keys_of (on_list setting pass.level (spilled_by setting pass) i))
    ≡ filter (λ key. list_of setting pass.level key == i) (filter (λ key. not (is_one_of (taken_by setting pass) key))
    (first_of_each (keys_of pass.records)))
keys_on_list setting pass i =
    ap first_of_each
    (map-filter (λ (entry : Record). entry.key) here (spilled_by setting pass)
    ∙ ap (filter here) (map-filter (λ (entry : Record). entry.key) other pass.records))
    ∙ distinct-filter here (filter other (keys_of pass.records))
    ∙ ap (filter here) (distinct-filter other (keys_of pass.records))
  where
    here : Key → Bool
    here key = list_of setting pass.level key == i

    other : Key → Bool
    other key = not (is_one_of (taken_by setting pass) key)

pub not_taken : (setting : Setting) (keys : List Key) → IsDistinct same_key keys
    → filter (λ key. not (is_one_of (taken setting keys) key)) keys ≡ drop (prefix_len (fits setting) (fronts keys)) keys
not_taken setting keys apart =
    let n : ℕ = prefix_len (fits setting) (fronts keys) in
    ap (filter (λ key. not (is_one_of (take n keys) key))) (sym (take-append-drop n keys))
    ∙ not_in_front (take n keys) (drop n keys) (subst (IsDistinct same_key) (sym (take-append-drop n keys)) apart)

-- the distinct keys of the passes that are left, joined
keys_left : (setting : Setting) (pass : Pass) → flat_map (λ next. first_of_each (keys_of next.records)) (left_by setting pass)
    ≡ flat_map (λ i. filter (λ key. list_of setting pass.level key == i)
    (drop (prefix_len (fits setting) (fronts (first_of_each (keys_of pass.records)))) (first_of_each (keys_of pass.records))))
    (range_with_len 0 16)
keys_left setting pass =
    flat_map-map (λ next. first_of_each (keys_of next.records)) (one_deeper pass.level)
    (filter (λ (records : List Record). not (is_empty records)) (lists_of setting pass))
    ∙ flat_map-filter (λ records. first_of_each (keys_of records)) (λ (records : List Record). not (is_empty records)) none
    (lists_of setting pass)
    ∙ flat_map-map (λ records. first_of_each (keys_of records)) (on_list setting pass.level (spilled_by setting pass)) (range_with_len 0 16)
    ∙ flat_map_same (λ i. first_of_each (keys_of (on_list setting pass.level (spilled_by setting pass) i)))
    (λ i. filter (λ key. list_of setting pass.level key == i)
    (drop (prefix_len (fits setting) (fronts (first_of_each (keys_of pass.records)))) (first_of_each (keys_of pass.records))))
    (range_with_len 0 16)
    (each_everywhere
    (λ i. first_of_each (keys_of (on_list setting pass.level (spilled_by setting pass) i))
    ≡ filter (λ key. list_of setting pass.level key == i)
    (drop (prefix_len (fits setting) (fronts (first_of_each (keys_of pass.records)))) (first_of_each (keys_of pass.records))))
    (λ i. keys_on_list setting pass i
    ∙ ap (filter (λ key. list_of setting pass.level key == i)) (not_taken setting (first_of_each (keys_of pass.records))
    (distinct-apart (keys_of pass.records)))) (range_with_len 0 16))
  where
    none : (records : List Record) → not (is_empty records) ≡ false → first_of_each (keys_of records) ≡ []
    none [] e = refl
    none (entry ∷ records) e = absurd (both_ways true e refl)

taken_once_down_to : (setting : Setting) (pass : Pass) (n : ℕ) → EachFits setting pass.records → length pass.records ≤ n
    → IsPermutation (first_of_each (keys_of pass.records)) (flat_map (taken_by setting) (down_to n setting pass))
taken_once_down_to setting pass zero fit within =
    subst (λ records. IsPermutation (first_of_each (keys_of records)) (taken setting (first_of_each (keys_of records)) ++ []))
    (sym (no_records pass within)) (IsPermutation-refl [])
taken_once_down_to setting pass (suc n) fit within =
    let keys : List Key = first_of_each (keys_of pass.records) in
    let m : ℕ = prefix_len (fits setting) (fronts keys) in
    let rest : List Key = drop m keys in
    let split : IsPermutation rest (flat_map (λ i. filter (λ key. list_of setting pass.level key == i) rest) (range_with_len 0 16)) =
    split_permutes (list_of setting pass.level) 0 16 rest (each_everywhere (λ key. (0 ≤ list_of setting pass.level key)
    × (list_of setting pass.level key < 0 + 16)) (λ key. let below = list_below setting pass.level key in (omega arith, omega arith))
    rest)
    in
    let deeper : IsPermutation (flat_map (λ next. first_of_each (keys_of next.records)) (left_by setting pass))
    (flat_map (λ next. flat_map (taken_by setting) (down_to n setting next)) (left_by setting pass)) =
    flat_map_permutes (λ next. first_of_each (keys_of next.records)) (λ next. flat_map (taken_by setting) (down_to n setting next))
    (left_by setting pass)
    (each_weaker (λ next. (length next.records ≤ n) × EachFits setting next.records)
    (λ next. IsPermutation (first_of_each (keys_of next.records)) (flat_map (taken_by setting) (down_to n setting next)))
    (λ next both. taken_once_down_to setting next n both.1 both.0) (left_by setting pass) (each_left_fits setting pass n fit within))
    in
    let behind : IsPermutation rest (flat_map (taken_by setting) (flat_map (down_to n setting) (left_by setting pass))) =
    subst (IsPermutation rest) (sym (flat_map-flat_map (taken_by setting) (down_to n setting) (left_by setting pass)))
    (IsPermutation-trans rest _ _ (subst (IsPermutation rest) (sym (keys_left setting pass)) split) deeper)
    in
    subst (λ front. IsPermutation front (take m keys ++ flat_map (taken_by setting) (flat_map (down_to n setting) (left_by setting pass))))
    (take-append-drop m keys)
    (IsPermutation-append_right (take m keys) rest _ behind)

pub taken_once : (setting : Setting) (pass : Pass) → EachFits setting pass.records
    → IsPermutation (first_of_each (keys_of pass.records)) (flat_map (taken_by setting) (passes_from setting pass))
taken_once setting pass fit = taken_once_down_to setting pass (length pass.records) fit (omega arith)
