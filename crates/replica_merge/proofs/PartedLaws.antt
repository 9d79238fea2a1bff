-- The groups of rows in two parts: those whose keys come first, and the others.
use Rattle.std.specs.Prelude.{◌≡◌, refl, ℕ, Bool, true, false, cond, ◌||◌, List, [], ◌∷◌, ◌++◌, map, filter, Option, Some, None}
use Rattle.std.proofs.Common.{sym, ◌∙◌, ap, subst, inl, inr}
use Rattle.std.proofs.lemmas.List.{map-append}
use Rattle.std.proofs.lemmas.List.Elements.{filter-append}
use Rattle.std.specs.declared.cmp.Ordering.{Ordering}
use Rattle.std.specs.declared.cmp.Ordering.TheVariants.{Less, Equal, Greater}
use Rattle.std.specs.Ordering.{eq_by_cmp, match_ordering, is_lt, nat_cmp, ordering_reverse}
use Rattle.std.specs.Cmp.Lexicographic.{slice_cmp}
use Rattle.std.specs.List.{AllByRecursion}
use Rattle.std.specs.List.Sorted.{IsStrictlySortedBy}
use Rattle.replica_merge.specs.Lemmas.Words.{each_weaker, Row, row_cmp, Query, Group, part}
use Rattle.list_laws.specs.Each.{each_append}
use Rattle.grouping_model.specs.Datum.{Kind, HasKinds, same_row}
use Rattle.grouping_model.specs.Condition.{is_met}
use Rattle.grouping_model.specs.DatumOrderLaws.{row_cmp_total, row_cmp_ties, same_row-is}
use Rattle.grouping_model.specs.Grouping.{selected, key_of, keys, group, partials, column_of}
use Rattle.grouping_model.specs.KeyLaws.{keys_rise}
use Rattle.grouping_model.specs.MemberLaws.{Member, false_is_not_true, among_member}
use Rattle.grouping_model.specs.Rising.{put, distinct, is_among}
use Rattle.grouping_model.specs.Rising.Facts.{among-distinct, among-append, same_members, or_assoc}
use Rattle.packed_rows.specs.ConcatenatedRows.{concatenated}
use Rattle.packed_rows.specs.Packing.{packing}
use Rattle.packed_rows.specs.Lemmas.PackingOrder.{packed_order}
use Rattle.group_runs.specs.PlaceLaws.{key_total}
use Rattle.replica_merge.specs.Pieces.{comes}

-- ---- lists

or_swap : (a b c : Bool) → (a || (b || c)) ≡ (b || (a || c))
or_swap true true c = refl
or_swap true false c = refl
or_swap false b c = refl

pub put_each : (P : Row → Type 0) (k : Row) (ks : List Row) → P k → AllByRecursion P ks → AllByRecursion P (put row_cmp k ks)
put_each P k [] one all = (one, tt)
put_each P k (l ∷ ks) one (first, all) =
    elim (row_cmp k l) as (λ r. AllByRecursion P (match_ordering r (k ∷ l ∷ ks) (l ∷ ks) (l ∷ put row_cmp k ks))) [
      | Less ↦ (one, (first, all))
      | Equal ↦ (first, all)
      | Greater ↦ (first, put_each P k ks one all)
    ]

pub distinct_each : (P : Row → Type 0) (ks : List Row) → AllByRecursion P ks → AllByRecursion P (distinct row_cmp ks)
distinct_each P [] all = tt
distinct_each P (k ∷ ks) (first, all) = put_each P k (distinct row_cmp ks) first (distinct_each P ks all)

member_has : (P : Row → Type 0) (ks : List Row) (k : Row) → AllByRecursion P ks → Member ks k → P k
member_has P [] k all m = absurd m
member_has P (l ∷ ks) k (first, all) (inl e) = subst P e first
member_has P (l ∷ ks) k (first, all) (inr m) = member_has P ks k all m

-- keys that are among others have what all of these have
each_among : (P : Row → Type 0) (ks ls : List Row) → ((k : Row) → is_among row_cmp k ks ≡ true → is_among row_cmp k ls ≡ true)
    → AllByRecursion P ls → AllByRecursion P ks
each_among P ks ls among all = walk ks (λ k m. among k ((among_member row_cmp_total row_cmp_ties ks k).1 m))
  where
    walk : (ms : List Row) → ((k : Row) → Member ms k → is_among row_cmp k ls ≡ true) → AllByRecursion P ms
    walk [] those = tt
    walk (m ∷ ms) those = (
      member_has P ls m all ((among_member row_cmp_total row_cmp_ties ls m).0 (those m (inl refl))),
      walk ms (λ k n. those k (inr n)),
    )

pub rises_append : {X : Type 0} (cmp : X → X → Ordering) (xs ys : List X) → IsStrictlySortedBy cmp xs → IsStrictlySortedBy cmp ys
    → AllByRecursion (λ x. AllByRecursion (λ y. cmp x y ≡ Less) ys) xs → IsStrictlySortedBy cmp (xs ++ ys)
unfolding IsStrictlySortedBy
rises_append cmp [] ys first second before = second
rises_append cmp (x ∷ xs) ys (above, first) second (low, before) = (
  each_append (λ z. cmp x z ≡ Less) xs ys above low,
  rises_append cmp xs ys first second before,
)

map_same : (f g : Row → Group) (ks : List Row) → AllByRecursion (λ k. f k ≡ g k) ks → map f ks ≡ map g ks
map_same f g [] all = refl
map_same f g (k ∷ ks) (first, all) = λ i. first i ∷ map_same f g ks all i

-- ---- rows in two parts, by a test of their keys

abbrev pub no : (Row → Bool) → Row → Bool
no p key = cond (p key) false true

abbrev pub kept : (Row → Bool) → Query → List Row → List Row
kept p q rows = filter (λ (row : Row). p (key_of q row)) rows

pub kept_concatenated : (p : Row → Bool) (q : Query) (lists : List (List Row)) → kept p q (concatenated lists)
    ≡ concatenated (map (kept p q) lists)
kept_concatenated p q [] = refl
kept_concatenated p q (rows ∷ lists) = filter-append (λ (row : Row). p (key_of q row)) rows (concatenated lists)
    ∙ ap (λ those. kept p q rows ++ those) (kept_concatenated p q lists)

-- a key is among those of the one part, or of the other
among_parts : (q : Query) (p : Row → Bool) (key : Row) (rows : List Row)
    → (is_among row_cmp key (map (key_of q) (selected q (kept p q rows)))
    || is_among row_cmp key (map (key_of q) (selected q (kept (no p) q rows))))
    ≡ is_among row_cmp key (map (key_of q) (selected q rows))
among_parts q p key [] = refl
among_parts q p key (row ∷ rows) =
    let rest = among_parts q p key rows in
    let here : Bool = eq_by_cmp row_cmp key (key_of q row) in
    let one : Bool = is_among row_cmp key (map (key_of q) (selected q (kept p q rows))) in
    let other : Bool = is_among row_cmp key (map (key_of q) (selected q (kept (no p) q rows))) in
    elim (p (key_of q row)) as (λ b.
    (is_among row_cmp key (map (key_of q) (selected q (cond b (row ∷ kept p q rows) (kept p q rows))))
    || is_among row_cmp key (map (key_of q) (selected q (cond (cond b false true) (row ∷ kept (no p) q rows) (kept (no p) q rows)))))
    ≡ is_among row_cmp key (map (key_of q) (selected q (row ∷ rows)))) [
      | true ↦ elim (is_met (column_of row) q.condition) as (λ m.
          (is_among row_cmp key (map (key_of q) (cond m (row ∷ selected q (kept p q rows)) (selected q (kept p q rows)))) || other)
          ≡ is_among row_cmp key (map (key_of q) (cond m (row ∷ selected q rows) (selected q rows)))) [
            | true ↦ or_assoc here one other ∙ ap (λ b. here || b) rest
            | false ↦ rest
          ]
      | false ↦ elim (is_met (column_of row) q.condition) as (λ m.
          (one || is_among row_cmp key (map (key_of q) (cond m (row ∷ selected q (kept (no p) q rows)) (selected q (kept (no p) q rows)))))
          ≡ is_among row_cmp key (map (key_of q) (cond m (row ∷ selected q rows) (selected q rows)))) [
            | true ↦ or_swap one here other ∙ ap (λ b. here || b) rest
            | false ↦ rest
          ]
    ]

among_keys : (q : Query) (p : Row → Bool) (key : Row) (rows : List Row)
    → (is_among row_cmp key (keys q (kept p q rows)) || is_among row_cmp key (keys q (kept (no p) q rows)))
    ≡ is_among row_cmp key (keys q rows)
among_keys q p key rows =
    (λ i. among-distinct row_cmp_total key (map (key_of q) (selected q (kept p q rows))) i
    || among-distinct row_cmp_total key (map (key_of q) (selected q (kept (no p) q rows))) i)
    ∙ among_parts q p key rows
    ∙ sym (among-distinct row_cmp_total key (map (key_of q) (selected q rows)))

-- the test is true of all keys of the part
keys_kept : (q : Query) (p : Row → Bool) (rows : List Row)
    → AllByRecursion (λ k. p k ≡ true) (map (key_of q) (selected q (kept p q rows)))
keys_kept q p [] = tt
keys_kept q p (row ∷ rows) =
    let rest = keys_kept q p rows in
    elim (p (key_of q row)) as (λ b. p (key_of q row) ≡ b
    → AllByRecursion (λ k. p k ≡ true) (map (key_of q) (selected q (cond b (row ∷ kept p q rows) (kept p q rows))))) [
      | true ↦ λ e. elim (is_met (column_of row) q.condition) as (λ m.
          AllByRecursion (λ k. p k ≡ true) (map (key_of q) (cond m (row ∷ selected q (kept p q rows)) (selected q (kept p q rows))))) [
            | true ↦ (e, rest)
            | false ↦ rest
          ]
      | false ↦ λ e. rest
    ] refl

pub kept_keys : (q : Query) (p : Row → Bool) (rows : List Row) → AllByRecursion (λ k. p k ≡ true) (keys q (kept p q rows))
kept_keys q p rows = distinct_each (λ k. p k ≡ true) (map (key_of q) (selected q (kept p q rows))) (keys_kept q p rows)

-- the rows of a key of which it is true are all there
group_kept : (q : Query) (p : Row → Bool) (key : Row) → p key ≡ true → (rows : List Row)
    → group q (kept p q rows) key ≡ group q rows key
group_kept q p key holds [] = refl
group_kept q p key holds (row ∷ rows) =
    let rest = group_kept q p key holds rows in
    let same : Row → Bool = λ (r : Row). same_row (key_of q r) key in
    elim (p (key_of q row)) as (λ b. p (key_of q row) ≡ b
    → filter same (selected q (cond b (row ∷ kept p q rows) (kept p q rows))) ≡ filter same (selected q (row ∷ rows))) [
      | true ↦ λ e. elim (is_met (column_of row) q.condition) as (λ m.
          filter same (cond m (row ∷ selected q (kept p q rows)) (selected q (kept p q rows)))
          ≡ filter same (cond m (row ∷ selected q rows) (selected q rows))) [
            | true ↦ ap (λ (l : List Row). cond (same row) (row ∷ l) l) rest
            | false ↦ rest
          ]
      | false ↦ λ e. elim (is_met (column_of row) q.condition) as (λ m.
          filter same (selected q (kept p q rows)) ≡ filter same (cond m (row ∷ selected q rows) (selected q rows))) [
            | true ↦ rest ∙ ap (λ b. cond b (row ∷ filter same (selected q rows)) (filter same (selected q rows))) (sym (other e))
            | false ↦ rest
          ]
    ] refl
  where
    other : p (key_of q row) ≡ false → same_row (key_of q row) key ≡ false
    other e = elim (same_row (key_of q row) key) as (λ b. same_row (key_of q row) key ≡ b → b ≡ false) [
      | true ↦ λ s. false_is_not_true (sym e ∙ ap p ((same_row-is (key_of q row) key).0 s) ∙ holds)
      | false ↦ λ s. refl
    ] refl

-- each of the first keys is below each of the others
abbrev pub KeysBefore : List Row → List Row → Type 0
KeysBefore ks ls = AllByRecursion (λ k. AllByRecursion (λ l. row_cmp k l ≡ Less) ls) ks

keys_parted : (q : Query) (p : Row → Bool) (rows : List Row) → KeysBefore (keys q (kept p q rows)) (keys q (kept (no p) q rows))
    → keys q rows ≡ keys q (kept p q rows) ++ keys q (kept (no p) q rows)
keys_parted q p rows before =
    same_members row_cmp_total row_cmp_ties (keys q rows) (keys q (kept p q rows) ++ keys q (kept (no p) q rows)) (keys_rise q rows)
    (rises_append row_cmp (keys q (kept p q rows)) (keys q (kept (no p) q rows)) (keys_rise q (kept p q rows))
    (keys_rise q (kept (no p) q rows)) before)
    (λ key. sym (among_keys q p key rows) ∙ sym (among-append row_cmp key (keys q (kept p q rows)) (keys q (kept (no p) q rows))))

-- the groups of the rows are those of the one part, and then those of the other
pub part_parted : (q : Query) (p : Row → Bool) (rows : List Row) → KeysBefore (keys q (kept p q rows)) (keys q (kept (no p) q rows))
    → part q rows ≡ part q (kept p q rows) ++ part q (kept (no p) q rows)
part_parted q p rows before =
    let of : List Row → Row → Group = λ (those : List Row) (key : Row). (key, partials q (group q those key)) in
    let first : List Row = keys q (kept p q rows) in
    let second : List Row = keys q (kept (no p) q rows) in
    ap (map (of rows)) (keys_parted q p rows before)
    ∙ map-append (of rows) first second
    ∙ (λ i. map_same (of rows) (of (kept p q rows)) first (each_weaker (λ k. p k ≡ true) (λ k. of rows k ≡ of (kept p q rows) k)
    (λ k e. ap (λ (those : List Row). (k, partials q those)) (sym (group_kept q p k e rows))) first (kept_keys q p rows)) i
    ++ map_same (of rows) (of (kept (no p) q rows)) second (each_weaker (λ k. no p k ≡ true) (λ k. of rows k ≡ of (kept (no p) q rows) k)
    (λ k e. ap (λ (those : List Row). (k, partials q those)) (sym (group_kept q (no p) k e rows))) second (kept_keys q (no p) rows)) i)

-- ---- keys that come into a piece

-- what comes is below what stays
pub comes_before : (bound : Option (List ℕ)) (x y : List ℕ) → comes bound x ≡ true → comes bound y ≡ false → slice_cmp nat_cmp x y ≡ Less
comes_before None x y come stay = false_is_not_true (sym stay)
comes_before (Some z) x y come stay = cases (slice_cmp nat_cmp x z) refl (slice_cmp nat_cmp y z) refl
  where
    cases : (r : Ordering) → slice_cmp nat_cmp x z ≡ r → (s : Ordering) → slice_cmp nat_cmp y z ≡ s → slice_cmp nat_cmp x y ≡ Less
    cases Equal is s other = false_is_not_true (ap is_lt (sym is) ∙ come)
    cases Greater is s other = false_is_not_true (ap is_lt (sym is) ∙ come)
    cases Less is Less other = false_is_not_true (sym stay ∙ ap is_lt other)
    cases Less is Equal other =
        key_total.antisymm x y ∙ ap ordering_reverse (key_total.congr y z x other ∙ key_total.antisymm z x ∙ ap ordering_reverse is)
    cases Less is Greater other = key_total.trans x z y is (key_total.antisymm z y ∙ ap ordering_reverse other)

-- the same of keys of a query
abbrev pub key_comes : Option (List ℕ) → Row → Bool
key_comes bound key = comes bound (packing key)

is_false : (b : Bool) → cond b false true ≡ true → b ≡ false
is_false true e = sym e
is_false false e = refl

pub keys_before : (bound : Option (List ℕ)) (kinds : List Kind) (ks ls : List Row) → AllByRecursion (HasKinds kinds) ks
    → AllByRecursion (HasKinds kinds) ls → AllByRecursion (λ k. key_comes bound k ≡ true) ks
    → AllByRecursion (λ l. no (key_comes bound) l ≡ true) ls → KeysBefore ks ls
keys_before bound kinds [] ls has others come stay = tt
keys_before bound kinds (k ∷ ks) ls (one, has) others (here, come) stay = (
  walk ls others stay,
  keys_before bound kinds ks ls has others come
      stay,
)
  where
    walk : (ms : List Row) → AllByRecursion (HasKinds kinds) ms → AllByRecursion (λ l. no (key_comes bound) l ≡ true) ms
        → AllByRecursion (λ l. row_cmp k l ≡ Less) ms
    walk [] all stays = tt
    walk (m ∷ ms) (first, all) (high, stays) = (
      sym (packed_order kinds k m one first) ∙ comes_before bound (packing k) (packing m) here (is_false (key_comes bound m) high),
      walk ms all stays,
    )

-- of rows whose keys are of some kinds, in two ways
pub come_apart : (bound : Option (List ℕ)) (kinds : List Kind) (q : Query) (rows : List Row)
    → AllByRecursion (HasKinds kinds) (keys q (kept (key_comes bound) q rows))
    → AllByRecursion (HasKinds kinds) (keys q (kept (no (key_comes bound)) q rows))
    → part q rows ≡ part q (kept (key_comes bound) q rows) ++ part q (kept (no (key_comes bound)) q rows)
come_apart bound kinds q rows first second =
    part_parted q (key_comes bound) rows
    (keys_before bound kinds (keys q (kept (key_comes bound) q rows)) (keys q (kept (no (key_comes bound)) q rows)) first second
    (kept_keys q (key_comes bound) rows) (kept_keys q (no (key_comes bound)) rows))

or_left : (a b : Bool) → a ≡ true → (a || b) ≡ true
or_left a b e = ap (λ c. c || b) e

or_right : (a b : Bool) → b ≡ true → (a || b) ≡ true
or_right true b e = refl
or_right false b e = e

pub all_apart : (bound : Option (List ℕ)) (kinds : List Kind) (q : Query) (rows : List Row) → AllByRecursion (HasKinds kinds) (keys q rows)
    → part q rows ≡ part q (kept (key_comes bound) q rows) ++ part q (kept (no (key_comes bound)) q rows)
all_apart bound kinds q rows all =
    let p : Row → Bool = key_comes bound in
    come_apart bound kinds q rows
    (each_among (HasKinds kinds) (keys q (kept p q rows)) (keys q rows)
    (λ k e. sym (among_keys q p k rows) ∙ or_left (is_among row_cmp k (keys q (kept p q rows)))
    (is_among row_cmp k (keys q (kept (no p) q rows))) e) all)
    (each_among (HasKinds kinds) (keys q (kept (no p) q rows)) (keys q rows)
    (λ k e. sym (among_keys q p k rows) ∙ or_right (is_among row_cmp k (keys q (kept p q rows)))
    (is_among row_cmp k (keys q (kept (no p) q rows))) e) all)
