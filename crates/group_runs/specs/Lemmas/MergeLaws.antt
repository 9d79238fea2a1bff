-- Groups after more rows and more groups.
-- ---- rows
use Rattle.std.specs.Prelude.{◌≡◌, refl, ℕ, zero, suc, ◌+◌, ◌≤◌, Bool, true, false, cond, ◌||◌, List, [], ◌∷◌, ◌++◌, length, map, find}
use Rattle.std.specs.Prelude.{take, Some, None, option_map, slice_get}
use Rattle.std.proofs.Common.{sym, ◌∙◌, ap, arith, append_assoc, append-nil}
use Rattle.std.proofs.lemmas.List.{map-append}
use Rattle.std.proofs.lemmas.List.Elements.{filter-append}
use Rattle.std.specs.declared.cmp.Ordering.TheVariants.{Less, Equal, Greater}
use Rattle.std.specs.Ordering.{eq_by_cmp, match_ordering, is_eq}
use Rattle.std.specs.Cmp.{tied_itself}
use Rattle.std.specs.List.{AllByRecursion}
use Rattle.std.specs.List.Sorted.{IsStrictlySortedBy}
use Rattle.std.specs.BTreeMap.{insert_entry}
use Rattle.grouping_model.specs.Datum.{Row, Kind, HasKinds, row_cmp, same_row}
use Rattle.grouping_model.specs.Rising.{put, distinct, is_among}
use Rattle.grouping_model.specs.Rising.Facts.{distinct-rises, put-rises, among-distinct, among-put, among-append, same_members, or_comm}
use Rattle.grouping_model.specs.Rising.Facts.{or_assoc}
use Rattle.grouping_model.specs.Aggregates.{Partial}
use Rattle.grouping_model.specs.Condition.{is_met}
use Rattle.grouping_model.specs.Query.{Query}
use Rattle.grouping_model.specs.Grouping.{selected, key_of, keys, group, partials, column_of, Group, part}
use Rattle.grouping_model.specs.Parts.{keys_of, partials_at, with_row}
use Rattle.grouping_model.specs.DatumOrderLaws.{row_cmp_total, row_cmp_ties}
use Rattle.grouping_model.specs.MemberLaws.{false_is_not_true}
use Rattle.grouping_model.specs.KeyLaws.{group_append, keys_rise}
use Rattle.grouping_model.specs.PartLaws.{same_row-swap, found_at, empty_group}
use Rattle.grouping_model.specs.Lemmas.PartLaws.{part_passes, partials-append}
use Rattle.grouping_model.specs.Lemmas.GroupLaws.{put-map, part_one_more}
use Rattle.group_runs.specs.Adding.{row_added, rows_added, merged, group_added, groups_added}
use Rattle.group_runs.specs.MergeLaws.{AreApart, apart_from, nothing_rises, puts, puts_rise, rising_apart}

-- the part of rows and one more
pub row_added_part : (q : Query) (kinds : List Kind) (rows : List Row) (row : Row) → HasKinds kinds row → row_added q (part q rows) row
    ≡ part q (rows ++ row ∷ [])
row_added_part q kinds rows row has =
    elim (is_met (column_of row) q.condition) as (λ b. is_met (column_of row) q.condition ≡ b
    → cond b (with_row q (part q rows) row) (part q rows) ≡ part q (rows ++ row ∷ [])) [
      | true ↦ λ met. sym (part_one_more q kinds rows row has met)
      | false ↦ λ met. sym (part_passes q rows row met)
    ] refl

pub rows_added_part : (q : Query) (kinds : List Kind) (rows more : List Row) → AllByRecursion (HasKinds kinds) more
    → rows_added q (part q rows) more ≡ part q (rows ++ more)
rows_added_part q kinds rows [] has = ap (part q) (sym (append-nil rows))
rows_added_part q kinds rows (row ∷ more) (first, has) =
    ap (λ gs. rows_added q gs more) (row_added_part q kinds rows row first)
    ∙ rows_added_part q kinds (rows ++ row ∷ []) more has
    ∙ ap (part q) (append_assoc rows (row ∷ []) more)

pub puts-append : (ks ls ms : List Row) → puts ks (ls ++ ms) ≡ puts (puts ks ls) ms
puts-append ks [] ms = refl
puts-append ks (l ∷ ls) ms = puts-append (put row_cmp l ks) ls ms

pub among-puts : (key : Row) (ks ls : List Row) → is_among row_cmp key (puts ks ls) ≡ (is_among row_cmp key ks || is_among row_cmp key ls)
among-puts key ks [] = or_false (is_among row_cmp key ks)
  where
    or_false : (b : Bool) → b ≡ (b || false)
    or_false true = refl
    or_false false = refl
among-puts key ks (l ∷ ls) =
    among-puts key (put row_cmp l ks) ls
    ∙ ap (λ b. b || is_among row_cmp key ls) (among-put row_cmp_total key l ks
    ∙ or_comm (eq_by_cmp row_cmp key l) (is_among row_cmp key ks))
    ∙ or_assoc (is_among row_cmp key ks) (eq_by_cmp row_cmp key l) (is_among row_cmp key ls)

-- put from nothing, they are the distinct ones
pub puts_all : (ls : List Row) → puts [] ls ≡ distinct row_cmp ls
puts_all ls =
    same_members row_cmp_total row_cmp_ties (puts [] ls) (distinct row_cmp ls) (puts_rise [] ls nothing_rises)
    (distinct-rises row_cmp_total ls)
    (λ key. among-puts key [] ls ∙ sym (among-distinct row_cmp_total key ls))

-- there are not more distinct ones than there are
put_long : (k : Row) (ks : List Row) → length (put row_cmp k ks) ≤ length ks + 1
put_long k [] = omega arith
put_long k (l ∷ ks) =
    let behind : length (put row_cmp k ks) ≤ length ks + 1 = put_long k ks in
    elim (row_cmp k l) as (λ r. length (match_ordering r (k ∷ l ∷ ks) (l ∷ ks) (l ∷ put row_cmp k ks)) ≤ length (l ∷ ks) + 1) [
      | Less ↦ omega arith
      | Equal ↦ omega arith
      | Greater ↦ omega (arith, behind)
    ]

pub puts_long : (ks ls : List Row) → length (puts ks ls) ≤ length ks + length ls
puts_long ks [] = omega arith
puts_long ks (l ∷ ls) =
    let one : length (put row_cmp l ks) ≤ length ks + 1 = put_long l ks in
    let rest : length (puts (put row_cmp l ks) ls) ≤ length (put row_cmp l ks) + length ls = puts_long (put row_cmp l ks) ls in
    omega (arith, one, rest)

pub distinct_few : (ks : List Row) → length (distinct row_cmp ks) ≤ length ks
distinct_few [] = omega arith
distinct_few (k ∷ ks) =
    let rest : length (distinct row_cmp ks) ≤ length ks = distinct_few ks in
    let one : length (put row_cmp k (distinct row_cmp ks)) ≤ length (distinct row_cmp ks) + 1 = put_long k (distinct row_cmp ks) in
    omega (arith, rest, one)

-- ---- groups
pub groups_added_more : (q : Query) (gs more : List Group) (g : Group) → groups_added q gs (more ++ g ∷ [])
    ≡ group_added q (groups_added q gs more) g
groups_added_more q gs [] g = refl
groups_added_more q gs (h ∷ more) g = groups_added_more q (group_added q gs h) more g

-- what is found at another key after an insertion
pub found_others : (k l : Row) (v : List Partial) (gs : List Group) → same_row l k ≡ false → partials_at k (insert_entry row_cmp gs l v)
    ≡ partials_at k gs
found_others k l v [] apart = ap (λ b. option_map (λ (group : Group). group.1) (cond b (Some (l, v)) None)) apart
found_others k l v (g ∷ gs) apart =
    elim (row_cmp l g.0) as (λ r. row_cmp l g.0 ≡ r
    → partials_at k (match_ordering r ((l, v) ∷ g ∷ gs) ((g.0, v) ∷ gs) (g ∷ insert_entry row_cmp gs l v)) ≡ partials_at k (g ∷ gs)) [
      | Less ↦ λ e. ap (λ b. option_map (λ (group : Group). group.1)
          (cond b (Some (l, v)) (find (λ (group : Group). same_row group.0 k) (g ∷ gs)))) apart
      | Equal ↦ λ e.
          let other : same_row g.0 k ≡ false = ap (λ x. same_row x k) (sym (row_cmp_ties l g.0 e)) ∙ apart in
          ap (λ b. option_map (λ (group : Group). group.1) (cond b (Some (g.0, v)) (find (λ (group : Group). same_row group.0 k) gs))) other
          ∙ ap (λ b. option_map (λ (group : Group). group.1) (cond b (Some g) (find (λ (group : Group). same_row group.0 k) gs)))
          (sym other)
      | Greater ↦ λ e.
          elim (same_row g.0 k) as (λ b. option_map (λ (group : Group). group.1)
          (cond b (Some g) (find (λ (group : Group). same_row group.0 k) (insert_entry row_cmp gs l v)))
          ≡ option_map (λ (group : Group). group.1) (cond b (Some g) (find (λ (group : Group). same_row group.0 k) gs))) [
            | true ↦ refl
            | false ↦ found_others k l v gs apart
          ]
    ] refl

-- a key that no new group has keeps its partial results
pub found_still : (q : Query) (k : Row) (gs more : List Group) → is_among row_cmp k (keys_of more) ≡ false
    → partials_at k (groups_added q gs more) ≡ partials_at k gs
found_still q k gs [] none = refl
found_still q k gs (g ∷ more) none =
    elim (same_row k g.0) as (λ b. same_row k g.0 ≡ b → (b || is_among row_cmp k (keys_of more)) ≡ false
    → partials_at k (groups_added q (group_added q gs g) more) ≡ partials_at k gs) [
      | true ↦ λ e none. false_is_not_true (sym none)
      | false ↦ λ e none. found_still q k (group_added q gs g) more none ∙ found_others k g.0 _ gs (same_row-swap g.0 k ∙ e)
    ] refl none

-- a group's key is not that of one before it
pub found_among : (gs : List Group) (i : ℕ) (g : Group) → slice_get gs i ≡ Some g → is_among row_cmp g.0 (keys_of gs) ≡ true
found_among [] i g e = absurd cc
found_among (h ∷ gs) zero g e =
    let same : h ≡ g = cc in
    ap (λ b. b || is_among row_cmp g.0 (keys_of gs)) (ap (λ (x : Group). same_row g.0 x.0) same ∙ ap is_eq (tied_itself row_cmp_total g.0))
found_among (h ∷ gs) (suc i) g e =
    elim (same_row g.0 h.0) as (λ b. (b || is_among row_cmp g.0 (keys_of gs)) ≡ true) [
      | true ↦ refl
      | false ↦ found_among gs i g e
    ]

pub none_before : (gs : List Group) (i : ℕ) (g : Group) → AreApart (keys_of gs) → slice_get gs i ≡ Some g
    → is_among row_cmp g.0 (keys_of (take i gs)) ≡ false
none_before [] i g apart e = absurd cc
none_before (h ∷ gs) zero g apart e = refl
none_before (h ∷ gs) (suc i) g (none, apart) e =
    ap (λ b. b || is_among row_cmp g.0 (keys_of (take i gs))) (apart_from h.0 g.0 (keys_of gs) none (found_among gs i g e))
    ∙ none_before gs i g apart e

-- ---- the part of two lists
abbrev with_values : (Row → List Partial) → List Row → List Group
with_values f ks = map (λ key. (key, f key)) ks

module _ (q : Query) (h all : Row → List Partial) where
  same_values : (f : Row → List Partial) (ks : List Row) → ((key : Row) → f key ≡ all key) → with_values f ks ≡ with_values all ks
  same_values f [] same = refl
  same_values f (k ∷ ks) same = λ i. (k, same k i) ∷ same_values f ks same i

  added_values : (f : Row → List Partial) (ks ls : List Row) → IsStrictlySortedBy row_cmp ks → AreApart ls
      → ((key : Row) → is_among row_cmp key ls ≡ false → f key ≡ all key)
      → ((key : Row) → is_among row_cmp key ls ≡ true → merged q (cond (is_among row_cmp key ks) (Some (f key)) None) (h key) ≡ all key)
      → groups_added q (with_values f ks) (with_values h ls) ≡ with_values all (puts ks ls)
  added_values f ks [] rising apart others own = same_values f ks (λ key. others key refl)
  added_values f ks (l ∷ ls) rising (none, apart) others own =
      let g : Row → List Partial = λ key. cond (same_row l key) (all key) (f key) in
      let itself : same_row l l ≡ true = ap is_eq (tied_itself row_cmp_total l) in
      let value : merged q (partials_at l (with_values f ks)) (h l) ≡ all l =
      ap (λ o. merged q o (h l)) (found_at f l ks) ∙ own l (ap (λ b. b || is_among row_cmp l ls) itself) in
      let one : group_added q (with_values f ks) (l, h l) ≡ with_values g (put row_cmp l ks) =
      ap (λ v. insert_entry row_cmp (with_values f ks) l v) value
      ∙ sym (put-map row_cmp_total row_cmp_ties l (all l) f g (ap (λ b. cond b (all l) (f l)) itself)
      (λ y e. ap (λ b. cond b (all y) (f y)) e) ks rising) in
      ap (λ gs. groups_added q gs (with_values h ls)) one
      ∙ added_values g (put row_cmp l ks) ls (put-rises row_cmp_total l ks rising) apart
      (λ key e.
      elim (same_row l key) as (λ b. same_row l key ≡ b → cond b (all key) (f key) ≡ all key) [
        | true ↦ λ s. refl
        | false ↦ λ s. others key (ap (λ b. b || is_among row_cmp key ls) (same_row-swap key l ∙ s) ∙ e)
      ] refl)
      (λ key e.
      let apart_l : same_row key l ≡ false = apart_from l key ls none e in
      let there : is_among row_cmp key (put row_cmp l ks) ≡ is_among row_cmp key ks = among-put row_cmp_total key l ks
      ∙ ap (λ b. b || is_among row_cmp key ks) apart_l in
      let kept : g key ≡ f key = ap (λ b. cond b (all key) (f key)) (same_row-swap l key ∙ apart_l) in
      (λ i. merged q (cond (there i) (Some (kept i)) None) (h key))
      ∙ own key (ap (λ b. b || is_among row_cmp key ls) apart_l ∙ e))

no_group : (q : Query) (rows : List Row) (key : Row) → is_among row_cmp key (keys q rows) ≡ false → group q rows key ≡ []
no_group q rows key e = empty_group (key_of q) key (selected q rows)
    (sym (among-distinct row_cmp_total key (map (key_of q) (selected q rows))) ∙ e)

both_keys : (q : Query) (xs ys : List Row) → puts (keys q xs) (keys q ys) ≡ keys q (xs ++ ys)
both_keys q xs ys =
    same_members row_cmp_total row_cmp_ties (puts (keys q xs) (keys q ys)) (keys q (xs ++ ys))
    (puts_rise (keys q xs) (keys q ys) (keys_rise q xs)) (keys_rise q (xs ++ ys))
    (λ key.
    among-puts key (keys q xs) (keys q ys)
    ∙ (λ i. among-distinct row_cmp_total key (map (key_of q) (selected q xs)) i
    || among-distinct row_cmp_total key (map (key_of q) (selected q ys)) i)
    ∙ sym (among-append row_cmp key (map (key_of q) (selected q xs)) (map (key_of q) (selected q ys)))
    ∙ ap (is_among row_cmp key) (sym (map-append (key_of q) (selected q xs) (selected q ys)))
    ∙ ap (λ rows. is_among row_cmp key (map (key_of q) rows)) (sym (filter-append (λ row. is_met (column_of row) q.condition) xs ys))
    ∙ sym (among-distinct row_cmp_total key (map (key_of q) (selected q (xs ++ ys)))))

pub groups_added_part : (q : Query) (xs ys : List Row) → groups_added q (part q xs) (part q ys) ≡ part q (xs ++ ys)
groups_added_part q xs ys =
    added_values q (λ key. partials q (group q ys key)) (λ key. partials q (group q (xs ++ ys) key)) (λ key. partials q (group q xs key))
    (keys q xs) (keys q ys) (keys_rise q xs) (rising_apart (keys q ys) (keys_rise q ys))
    (λ key none. ap (partials q) (sym (append-nil (group q xs key)) ∙ ap (λ rows. group q xs key ++ rows) (sym (no_group q ys key none))
    ∙ sym (group_append q xs ys key)))
    (λ key among.
    elim (is_among row_cmp key (keys q xs)) as (λ b. is_among row_cmp key (keys q xs) ≡ b
    → merged q (cond b (Some (partials q (group q xs key))) None) (partials q (group q ys key)) ≡ partials q (group q (xs ++ ys) key)) [
      | true ↦ λ e. sym (partials-append q (group q xs key) (group q ys key)) ∙ ap (partials q) (sym (group_append q xs ys key))
      | false ↦ λ e. ap (partials q) (ap (λ rows. rows ++ group q ys key) (sym (no_group q xs key e)) ∙ sym (group_append q xs ys key))
    ] refl)
    ∙ ap (map (λ key. (key, partials q (group q (xs ++ ys) key)))) (both_keys q xs ys)
