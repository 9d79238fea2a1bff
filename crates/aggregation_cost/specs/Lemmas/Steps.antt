-- A pass, record by record: what one more record changes.
use Rattle.std.specs.Prelude.{◌≡◌, refl, ℕ, ◌+◌, ◌≤◌, ◌==◌, Bool, true, false, cond, not, ◌&&◌, ◌||◌, List, [], ◌∷◌, ◌++◌, map, take, drop}
use Rattle.std.specs.Prelude.{filter, length}
use Rattle.std.proofs.Common.{sym, ◌∙◌, ap, arith}
use Rattle.std.specs.List.{prefix_len}
use Rattle.std.proofs.lemmas.Bool.{both_ways, not-true, eqb-true, eq-eqb, ne_eqb}
use Rattle.std.proofs.lemmas.List.{append-nil, map-append, take_all, take_at, take-append-le, length-append, length-drop}
use Rattle.std.proofs.lemmas.List.Folds.{prefix_len-append}
use Rattle.std.proofs.lemmas.List.Sums.{prefix_len-le-length}
use Rattle.std.proofs.lemmas.List.Elements.{filter-append}
use Rattle.aggregation_cost.specs.Space.{Key, Setting, fits, fronts}
use Rattle.aggregation_cost.specs.Passes.{Record, keys_of, same_key, is_one_of, first_of_each, taken, of_key, taken_from, without}
use Rattle.aggregation_cost.specs.Passes.{spilled_from, is_empty}
use Rattle.aggregation_cost.specs.ListLaws.{filter_absorbs}
use Rattle.aggregation_cost.specs.Lemmas.Lists.{map-filter}
use Rattle.aggregation_cost.specs.KeyLaws.{same_key_turned, distinct-filter, distinct-apart, one_of-distinct}
use Rattle.aggregation_cost.specs.Lemmas.Fronts.{length-fronts}
use Rattle.aggregation_cost.specs.Lemmas.WholeGroups.{one_of-filled}
use Rattle.aggregation_cost.specs.Lemmas.PassLaws.{not_taken, taken_all_spills_none}

-- ---- one more key

kept_apart : (key new : Key) (b : Bool) → same_key key new ≡ b → filter (λ other. not (same_key key other)) (new ∷ [])
    ≡ cond b [] (new ∷ [])
kept_apart key new true e = ap (λ b. cond (not b) (new ∷ []) []) e
kept_apart key new false e = ap (λ b. cond (not b) (new ∷ []) []) e

-- the distinct keys of one key more
pub distinct-push : (keys : List Key) (new : Key) → first_of_each (keys ++ new ∷ [])
    ≡ cond (is_one_of keys new) (first_of_each keys) (first_of_each keys ++ new ∷ [])
distinct-push [] new = refl
distinct-push (key ∷ keys) new =
    ap (λ ks. key ∷ filter other ks) (distinct-push keys new)
    ∙ elim (same_key new key) as (λ b. same_key new key ≡ b → key
    ∷ filter other (cond (is_one_of keys new) (first_of_each keys) (first_of_each keys ++ new ∷ []))
    ≡ cond (b || is_one_of keys new) (key ∷ filter other (first_of_each keys)) (key ∷ (filter other (first_of_each keys) ++ new ∷ []))) [
      | true ↦ λ e. elim (is_one_of keys new) as (λ c. key ∷ filter other (cond c (first_of_each keys) (first_of_each keys ++ new ∷ []))
          ≡ key ∷ filter other (first_of_each keys)) [
            | true ↦ refl
            | false ↦ ap (λ ks. key ∷ ks) (filter-append other (first_of_each keys) (new ∷ [])
                ∙ ap (λ ks. filter other (first_of_each keys) ++ ks) (kept_apart key new true (same_key_turned new key true e))
                ∙ append-nil (filter other (first_of_each keys)))
          ]
      | false ↦ λ e. elim (is_one_of keys new) as (λ c. key ∷ filter other (cond c (first_of_each keys) (first_of_each keys ++ new ∷ []))
          ≡ cond c (key ∷ filter other (first_of_each keys)) (key ∷ (filter other (first_of_each keys) ++ new ∷ []))) [
            | true ↦ refl
            | false ↦ ap (λ ks. key ∷ ks) (filter-append other (first_of_each keys) (new ∷ [])
                ∙ ap (λ ks. filter other (first_of_each keys) ++ ks) (kept_apart key new false (same_key_turned new key false e)))
          ]
    ] refl
  where
    other : Key → Bool
    other x = not (same_key key x)

fronts-push : {X : Type 0} (xs : List X) (x : X) → fronts (xs ++ x ∷ []) ≡ fronts xs ++ (xs ++ x ∷ []) ∷ []
fronts-push [] x = refl
fronts-push (y ∷ xs) x = ap (λ ys. (y ∷ []) ∷ map (λ front. y ∷ front) ys) (fronts-push xs x)
    ∙ ap (λ ys. (y ∷ []) ∷ ys) (map-append (λ front. y ∷ front) (fronts xs) ((xs ++ x ∷ []) ∷ []))

-- how many keys are taken, and whether all are
abbrev number_taken : Setting → List Key → ℕ
number_taken setting keys = prefix_len (fits setting) (fronts keys)

number_within : (setting : Setting) (keys : List Key) → number_taken setting keys ≤ length keys
number_within setting keys = let within = prefix_len-le-length (fits setting) (fronts keys) in let all = length-fronts keys in omega arith

-- where not all are taken, one key more changes nothing; else it is taken if it fits
taken-push : (setting : Setting) (keys : List Key) (new : Key) (b : Bool) → (number_taken setting keys == length keys) ≡ b
    → taken setting (keys ++ new ∷ []) ≡ cond (b && fits setting (keys ++ new ∷ [])) (keys ++ new ∷ []) (taken setting keys)
taken-push setting keys new b e =
    ap (λ n. take n (keys ++ new ∷ []))
    (ap (prefix_len (fits setting)) (fronts-push keys new) ∙ prefix_len-append (fits setting) (fronts keys) ((keys ++ new ∷ []) ∷ [])
    ∙ ap (λ n. cond (number_taken setting keys == n) (n + prefix_len (fits setting) ((keys ++ new ∷ []) ∷ [])) (number_taken setting keys))
    (length-fronts keys)
    ∙ ap (λ c. cond c (length keys + prefix_len (fits setting) ((keys ++ new ∷ []) ∷ [])) (number_taken setting keys)) e)
    ∙ by_case b e
  where
    by_fit : (f : Bool) → (number_taken setting keys == length keys) ≡ true → take (length keys + cond f (1 + 0) 0) (keys ++ new ∷ [])
        ≡ cond f (keys ++ new ∷ []) (taken setting keys)
    by_fit true all = take_all (length keys + 1) (keys ++ new ∷ []) (let long = length-append keys (new ∷ []) in omega arith)
    by_fit false all =
        let same : length keys + 0 ≡ length keys = omega arith in
        let none : length keys ≤ number_taken setting keys = let at = eqb-true (number_taken setting keys) (length keys) all in omega arith
        in
        ap (λ n. take n (keys ++ new ∷ [])) same ∙ take_at keys (new ∷ []) (length keys) refl
        ∙ sym (take_all (number_taken setting keys) keys none)

    by_case : (b : Bool) → (number_taken setting keys == length keys) ≡ b
        → take (cond b (length keys + prefix_len (fits setting) ((keys ++ new ∷ []) ∷ [])) (number_taken setting keys)) (keys ++ new ∷ [])
        ≡ cond (b && fits setting (keys ++ new ∷ [])) (keys ++ new ∷ []) (taken setting keys)
    by_case true all = by_fit (fits setting (keys ++ new ∷ [])) all
    by_case false some = take-append-le (number_taken setting keys) keys (new ∷ []) (number_within setting keys)

-- ---- one more record

-- nothing was spilled yet exactly where all keys were taken
spilled_keys : (setting : Setting) (records : List Record) → first_of_each (keys_of (spilled_from setting records))
    ≡ drop (number_taken setting (first_of_each (keys_of records))) (first_of_each (keys_of records))
spilled_keys setting records =
    ap first_of_each (map-filter (λ (entry : Record). entry.key) (λ key. not (is_one_of (taken_from setting records) key)) records)
    ∙ distinct-filter (λ key. not (is_one_of (taken_from setting records) key)) (keys_of records)
    ∙ not_taken setting (first_of_each (keys_of records)) (distinct-apart (keys_of records))

pub none_spilled-is : (setting : Setting) (records : List Record) → is_empty (spilled_from setting records)
    ≡ (number_taken setting (first_of_each (keys_of records)) == length (first_of_each (keys_of records)))
none_spilled-is setting records = by_list (spilled_from setting records) refl
  where
    keys : List Key
    keys = first_of_each (keys_of records)

    filled_keys : (list : List Record) → length (first_of_each (keys_of list)) ≡ 0 → is_empty list ≡ true
    filled_keys [] e = refl
    filled_keys (entry ∷ list) e = absurd (omega arith)

    by_list : (list : List Record) → spilled_from setting records ≡ list → is_empty (spilled_from setting records)
        ≡ (number_taken setting (first_of_each (keys_of records)) == length (first_of_each (keys_of records)))
    by_list [] e =
        let left : length (drop (number_taken setting (first_of_each (keys_of records))) (first_of_each (keys_of records)))
        ≡ 0 = ap length (sym (spilled_keys setting records)) ∙ ap (λ list. length (first_of_each (keys_of list))) e in
        let cut = length-drop (number_taken setting (first_of_each (keys_of records))) (first_of_each (keys_of records)) in
        let within = number_within setting (first_of_each (keys_of records)) in
        ap is_empty e ∙ sym (eq-eqb (number_taken setting (first_of_each (keys_of records))) (length (first_of_each (keys_of records)))
        (omega arith))
    by_list (entry ∷ list) e =
        ap is_empty e
        ∙ sym (ne_eqb (number_taken setting (first_of_each (keys_of records))) (length (first_of_each (keys_of records)))
        (λ all.
        let none : taken_from setting records
        ≡ first_of_each (keys_of records) = take_all (number_taken setting (first_of_each (keys_of records)))
        (first_of_each (keys_of records)) (omega arith) in
        let empty : spilled_from setting records ≡ [] = taken_all_spills_none records (taken_from setting records) none in
        both_ways (is_empty (spilled_from setting records)) (ap is_empty e) (ap is_empty empty)))

all_or_some : (setting : Setting) (records : List Record) → is_empty (spilled_from setting records) ≡ true → taken_from setting records
    ≡ first_of_each (keys_of records)
all_or_some setting records e =
    let keys : List Key = first_of_each (keys_of records) in
    let all : number_taken setting keys ≡ length keys = eqb-true (number_taken setting keys) (length keys)
    (sym (none_spilled-is setting records) ∙ e) in
    take_all (number_taken setting keys) keys (omega arith)

-- the keys that are taken after one record more
pub taken_from-push : (setting : Setting) (records : List Record) (new : Record) →
    taken_from setting (records ++ new ∷ [])
    ≡ cond (is_empty (spilled_from setting records) && (not (is_one_of (taken_from setting records) new.key)
    && fits setting (taken_from setting records ++ new.key ∷ []))) (taken_from setting records ++ new.key
    ∷ []) (taken_from setting records)
taken_from-push setting records new =
    ap (λ keys. taken setting (first_of_each keys)) (map-append (λ (entry : Record). entry.key) records (new ∷ []))
    ∙ ap (taken setting) (distinct-push (keys_of records) new.key)
    ∙ by_spilled (is_empty (spilled_from setting records)) refl
  where
    keys : List Key
    keys = first_of_each (keys_of records)

    by_spilled : (b : Bool) → is_empty (spilled_from setting records) ≡ b
        → taken setting (cond (is_one_of (keys_of records) new.key) (first_of_each (keys_of records)) (first_of_each (keys_of records)
        ++ new.key ∷ [])) ≡ cond (b && (not (is_one_of (taken_from setting records) new.key)
        && fits setting (taken_from setting records ++ new.key ∷ []))) (taken_from setting records ++ new.key
        ∷ []) (taken_from setting records)
    by_spilled true e =
        let all : taken_from setting records ≡ first_of_each (keys_of records) = all_or_some setting records e in
        elim (is_one_of (keys_of records) new.key) as (λ c. is_one_of (keys_of records) new.key ≡ c
        → taken setting (cond c (first_of_each (keys_of records)) (first_of_each (keys_of records) ++ new.key ∷ []))
        ≡ cond (not (is_one_of (taken_from setting records) new.key) && fits setting (taken_from setting records ++ new.key ∷ []))
        (taken_from setting records ++ new.key ∷ []) (taken_from setting records)) [
          | true ↦ λ among.
              let here : is_one_of (taken_from setting records) new.key ≡ true = ap (λ ks. is_one_of ks new.key) all
              ∙ one_of-distinct (keys_of records) new.key ∙ among in
              sym (ap (λ c. cond (not c && fits setting (taken_from setting records ++ new.key ∷ [])) (taken_from setting records ++ new.key
              ∷ []) (taken_from setting records)) here)
          | false ↦ λ apart.
              let here : is_one_of (taken_from setting records) new.key ≡ false = ap (λ ks. is_one_of ks new.key) all
              ∙ one_of-distinct (keys_of records) new.key ∙ apart in
              taken-push setting (first_of_each (keys_of records)) new.key true (sym (none_spilled-is setting records) ∙ e)
              ∙ ap (λ ks. cond (fits setting (ks ++ new.key ∷ [])) (ks ++ new.key ∷ []) (taken_from setting records)) (sym all)
              ∙ sym (ap (λ c. cond (not c && fits setting (taken_from setting records ++ new.key ∷ [])) (taken_from setting records
              ++ new.key ∷ []) (taken_from setting records)) here)
        ] refl
    by_spilled false e =
        elim (is_one_of (keys_of records) new.key) as (λ c. taken setting
        (cond c (first_of_each (keys_of records)) (first_of_each (keys_of records) ++ new.key ∷ [])) ≡ taken_from setting records) [
          | true ↦ refl
          | false ↦ taken-push setting (first_of_each (keys_of records)) new.key false (sym (none_spilled-is setting records) ∙ e)
        ]

-- what was spilled so far stays what is spilled of it
spilled_stays : (setting : Setting) (records : List Record) (new : Record) → without (taken_from setting (records ++ new ∷ [])) records
    ≡ spilled_from setting records
spilled_stays setting records new =
    ap (λ keys. without keys records) (taken_from-push setting records new)
    ∙ by_spilled (is_empty (spilled_from setting records)) refl
  where
    more_has : (keys : List Key) (key x : Key) → is_one_of (keys ++ key ∷ []) x ≡ false → is_one_of keys x ≡ false
    more_has [] key x e = refl
    more_has (k ∷ keys) key x e =
        elim (same_key x k) as (λ b. (b || is_one_of (keys ++ key ∷ []) x) ≡ false → (b || is_one_of keys x)
        ≡ false) [ true ↦ λ e. e | false ↦ λ e. more_has keys key x e ] e

    none_more : (more : List Key) → spilled_from setting records ≡ []
        → ((x : Key) → not (is_one_of more x) ≡ true → not (is_one_of (taken_from setting records) x) ≡ true) → without more records
        ≡ spilled_from setting records
    none_more more none fewer =
        sym (filter_absorbs (λ (entry : Record). not (is_one_of more entry.key))
        (λ (entry : Record). not (is_one_of (taken_from setting records) entry.key)) (λ entry. fewer entry.key) records)
        ∙ ap (filter (λ (entry : Record). not (is_one_of more entry.key))) none
        ∙ sym none

    empty_list : (list : List Record) → is_empty list ≡ true → list ≡ []
    empty_list [] e = refl
    empty_list (entry ∷ list) e = absurd (both_ways true (sym e) refl)

    by_spilled : (b : Bool) → is_empty (spilled_from setting records) ≡ b
        → without (cond (b && (not (is_one_of (taken_from setting records) new.key) && fits setting (taken_from setting records ++ new.key
        ∷ []))) (taken_from setting records ++ new.key ∷ []) (taken_from setting records)) records ≡ spilled_from setting records
    by_spilled true e =
        elim (not (is_one_of (taken_from setting records) new.key) && fits setting (taken_from setting records ++ new.key ∷ [])) as (λ c.
        without (cond c (taken_from setting records ++ new.key ∷ []) (taken_from setting records)) records
        ≡ spilled_from setting records) [
          | true ↦ none_more (taken_from setting records ++ new.key ∷ []) (empty_list (spilled_from setting records) e)
              (λ x t. ap not (more_has (taken_from setting records) new.key x
              (not-true (is_one_of (taken_from setting records ++ new.key ∷ []) x) t)))
          | false ↦ refl
        ]
    by_spilled false e = refl

-- the records that are spilled after one record more
pub spilled_from-push : (setting : Setting) (records : List Record) (new : Record) →
    spilled_from setting (records ++ new ∷ [])
    ≡ cond (is_one_of (taken_from setting (records ++ new ∷ [])) new.key) (spilled_from setting records) (spilled_from setting records
    ++ new ∷ [])
spilled_from-push setting records new =
    filter-append (λ (entry : Record). not (is_one_of (taken_from setting (records ++ new ∷ [])) entry.key)) records (new ∷ [])
    ∙ ap (λ list. list ++ without (taken_from setting (records ++ new ∷ [])) (new ∷ [])) (spilled_stays setting records new)
    ∙ elim (is_one_of (taken_from setting (records ++ new ∷ [])) new.key) as (λ b. spilled_from setting records
    ++ cond (not b) (new ∷ []) [] ≡ cond b (spilled_from setting records) (spilled_from setting records ++ new ∷ [])) [
      | true ↦ append-nil (spilled_from setting records)
      | false ↦ refl
    ]

-- a key that may enter has no record yet
pub none_before : (setting : Setting) (records : List Record) (key : Key) → is_empty (spilled_from setting records) ≡ true
    → is_one_of (taken_from setting records) key ≡ false → of_key key records ≡ []
none_before setting records key e apart =
    by_list (of_key key records)
    (sym (one_of-filled key records) ∙ sym (one_of-distinct (keys_of records) key)
    ∙ ap (λ keys. is_one_of keys key) (sym (all_or_some setting records e)) ∙ apart)
  where
    by_list : (list : List Record) → not (is_empty list) ≡ false → list ≡ []
    by_list [] e = refl
    by_list (entry ∷ list) e = absurd (both_ways true e refl)
