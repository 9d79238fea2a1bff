-- There are at most as many passes as groups.
use Rattle.std.specs.Prelude.{◌≡◌, refl, ℕ, ◌+◌, ◌<◌, ◌≤◌, max, true, false, cond, not, ◌||◌, List, [], ◌∷◌, ◌++◌, map, filter, length}
use Rattle.std.specs.List.{AllByRecursion, IsDistinct}
use Rattle.std.proofs.Common.{sym, ◌∙◌, ap, subst, inl, inr, arith}
use Rattle.std.proofs.lemmas.Bool.{both_ways, false_from_ne_true}
use Rattle.std.proofs.lemmas.List.{map-append, length-map, length-append}
use Rattle.std.proofs.lemmas.List.Sums.{sum_by-cons}
use Rattle.hash_agg.proofs.Words.{each_weaker, is_met, Row, row_cmp, Query, distinct, Group, column_of, selected, keys_of, packing, cost}
use Rattle.hash_agg.proofs.Words.{Key, Setting, Entry, packed_keys, concatenated, Brought, Packed, Counted, AllBring, IsAggregate}
use Rattle.hash_agg.proofs.Words.{IsRunOver, rows_in, all_rows, groups_in, all_groups, Given, Of_rows, Of_groups, AllGive, Piece, Of_row}
use Rattle.hash_agg.proofs.Words.{Of_group, records_of, all_pieces}
use Rattle.grouping_model.specs.Grouping.{key_of}
use Rattle.grouping_model.specs.DatumOrderLaws.{row_cmp_total, row_cmp_ties}
use Rattle.grouping_model.specs.MemberLaws.{Member, member_any, member_map, distinct_member}
use Rattle.aggregation_cost.specs.Passes as cost
use Rattle.aggregation_cost.specs.Lemmas.CostLaws.{passes_few}
use Rattle.aggregation_cost.specs.KeyLaws.{same_key_itself, same_key-is, distinct-apart}
use Rattle.aggregation_cost.specs.ListLaws.{any-filter, each_both, each_of_filter}
use Rattle.group_runs.specs.StandingLaws.{keys_packed, keys_of_kinds, groups_long}
use Rattle.hash_agg.proofs.SpillLaws.{records_more}

-- ---- lists of which each member is in another

abbrev Others : Key → List Key → List Key
Others x ys = filter (λ y. not (cost.same_key x y)) ys

no_longer : (x : Key) (ys : List Key) → length (Others x ys) ≤ length ys
no_longer x [] = omega arith
no_longer x (y ∷ ys) =
    let rest = no_longer x ys in
    elim (cost.same_key x y) as (λ b. length (cond (not b) (y ∷ Others x ys) (Others x ys)) ≤ length (y ∷ ys)) [
      | true ↦ omega (arith, rest)
      | false ↦ omega (arith, rest)
    ]

fewer_without : (x : Key) (ys : List Key) → cost.is_one_of ys x ≡ true → length (Others x ys) < length ys
fewer_without x [] among = absurd cc
fewer_without x (y ∷ ys) among =
    let most = no_longer x ys in
    elim (cost.same_key x y) as (λ b. (b || cost.is_one_of ys x) ≡ true → length (cond (not b) (y ∷ Others x ys) (Others x ys)) < length (y
    ∷ ys)) [
      | true ↦ λ e. omega (arith, most)
      | false ↦ λ e. let rest = fewer_without x ys e in omega (arith, rest)
    ] among

still_there : (x z : Key) (ys : List Key) → cost.same_key x z ≡ false → cost.is_one_of ys z ≡ true → cost.is_one_of (Others x ys) z ≡ true
still_there x z ys other among =
    any-filter (cost.same_key z) (λ y. not (cost.same_key x y))
    (λ y same. ap not (false_from_ne_true (cost.same_key x y)
    (λ t. both_ways (cost.same_key x z) other (subst (λ k. cost.same_key x k ≡ true) (sym (same_key-is z y same)) t)))) ys
    ∙ among

fewer_distinct : (xs ys : List Key) → IsDistinct cost.same_key xs → AllByRecursion (λ x. cost.is_one_of ys x ≡ true) xs
    → length xs ≤ length ys
unfolding IsDistinct
fewer_distinct [] ys apart all = omega arith
fewer_distinct (x ∷ xs) ys (here, apart) (among, all) =
    let rest = fewer_distinct xs (Others x ys) apart
    (each_weaker (λ z. (cost.same_key x z ≡ false) × (cost.is_one_of ys z ≡ true)) (λ z. cost.is_one_of (Others x ys) z
    ≡ true) (λ z has. still_there x z ys has.0 has.1) xs
    (each_both (λ z. cost.same_key x z ≡ false) (λ z. cost.is_one_of ys z ≡ true) xs here all)) in
    let less = fewer_without x ys among in
    omega (arith, rest, less)

each_distinct : (P : Key → Type 0) (keys : List Key) → AllByRecursion P keys → AllByRecursion P (cost.first_of_each keys)
each_distinct P [] all = tt
each_distinct P (key ∷ keys) (first, all) = (
  first,
  each_weaker (λ x. P x × (not (cost.same_key key x) ≡ true)) P (λ x has. has.0) (Others key (cost.first_of_each keys))
      (each_of_filter P (λ x. not (cost.same_key key x)) (cost.first_of_each keys) (each_distinct P keys all)),
)

-- ---- the keys of what is given

rows_keys : (q : Query) (width : ℕ) (rows : List Row) → cost.keys_of (records_of q width (map Of_row rows))
    ≡ map packing (map (key_of q) (selected q rows))
rows_keys q width [] = refl
rows_keys q width (row ∷ rows) =
    let rest = rows_keys q width rows in
    elim (is_met (column_of row) q.condition) as (λ b. cost.keys_of (cond b (cost.of_row (packing (key_of q row)) (packing row) ∷ []) []
    ++ records_of q width (map Of_row rows)) ≡ map packing (map (key_of q) (cond b (row ∷ selected q rows) (selected q rows)))) [
      | true ↦ ap (λ keys. packing (key_of q row) ∷ keys) rest
      | false ↦ rest
    ]

groups_keys : (q : Query) (width most : ℕ) (groups : List Group)
    → cost.keys_of (records_of q width (map (λ group. Of_group group most) groups)) ≡ map packing (keys_of groups)
groups_keys q width most [] = refl
groups_keys q width most (group ∷ groups) = ap (λ keys. packing group.0 ∷ keys) (groups_keys q width most groups)

record HasKeys (q : Query) (width : ℕ) (inputs : List Brought) (givens : List Given) : Type 0 where
  lists : List (List Row)
  bring : AllBring q inputs lists
  keys : cost.keys_of (records_of q width (all_pieces inputs givens)) ≡ map packing (concatenated lists)

more_keys : (q : Query) (width : ℕ) (pieces others : List Piece) (ks more : List Row) → cost.keys_of (records_of q width pieces)
    ≡ map packing ks → cost.keys_of (records_of q width others) ≡ map packing more → cost.keys_of (records_of q width (pieces ++ others))
    ≡ map packing (ks ++ more)
more_keys q width pieces others ks more a b =
    ap cost.keys_of (records_more q width pieces others)
    ∙ map-append (λ (entry : cost.Record). entry.key) (records_of q width pieces) (records_of q width others)
    ∙ (λ i. a i ++ b i)
    ∙ sym (map-append packing ks more)

has_keys : (q : Query) (width : ℕ) (inputs : List Brought) (givens : List Given) → AllGive q inputs givens → HasKeys q width inputs givens
has_keys q width [] [] give = record { lists = []; bring = tt; keys = refl }
has_keys q width [] (given ∷ givens) give = absurd give
has_keys q width (input ∷ inputs) [] give = absurd give
has_keys q width (Packed packed ∷ inputs) (Of_rows rows ∷ givens) (first, give) =
    let rest = has_keys q width inputs givens give in
    let ks : List Row = map (key_of q) (selected q rows) in
    record {
      lists = ks ∷ rest.lists;
      bring = ((rows, first, refl), rest.bring);
      keys = more_keys q width (map Of_row rows)
          (all_pieces inputs givens) ks (concatenated rest.lists) (rows_keys q width rows) rest.keys;
    }
has_keys q width (Counted run most ∷ inputs) (Of_groups groups ∷ givens) (first, give) =
    let rest = has_keys q width inputs givens give in
    record {
      lists = keys_of groups ∷ rest.lists;
      bring = (record { of_kinds = keys_of_kinds q most run groups first; packings_are = keys_packed q most run groups first }, rest.bring);
      keys = more_keys q width (map (λ group. Of_group group most) groups) (all_pieces inputs givens) (keys_of groups)
          (concatenated rest.lists) (groups_keys q width most groups) rest.keys;
    }
has_keys q width (Packed packed ∷ inputs) (Of_groups groups ∷ givens) (first, give) = absurd first
has_keys q width (Counted run most ∷ inputs) (Of_rows rows ∷ givens) (first, give) = absurd first

-- ---- the passes

each_among : (ks some : List Row) → ((k : Row) → Member some k → Member ks k)
    → AllByRecursion (λ x. cost.is_one_of (map packing (distinct row_cmp ks)) x ≡ true) (map packing some)
each_among ks [] within = tt
each_among ks (k ∷ some) within = (
  member_any (cost.same_key (packing k)) (map packing (distinct row_cmp ks)) (packing k)
      (member_map packing (distinct row_cmp ks) k ((distinct_member row_cmp_total row_cmp_ties ks k).1 (within k (inl refl))))
      (same_key_itself (packing k)),
  each_among ks some (λ z m. within z (inr m)),
)

pub few_passes : (q : Query) (s : Setting) (inputs : List Brought) (givens : List Given) (run : List Entry) → IsAggregate q inputs run
    → AllGive q inputs givens → cost.EachFits s (records_of q s.width (all_pieces inputs givens))
    → (cost s (records_of q s.width (all_pieces inputs givens))).passes ≤ max 1 (length run)
few_passes q s inputs givens run is give fit = by (records_of q s.width (all_pieces inputs givens)) refl
  where
    keys : HasKeys q s.width inputs givens
    keys = has_keys q s.width inputs givens give

    run_keys : packed_keys run ≡ map packing (distinct row_cmp (concatenated keys.lists))
    run_keys = is.keys keys.lists keys.bring

    long : length (map packing (distinct row_cmp (concatenated keys.lists))) ≡ length run
    long = ap length (sym run_keys) ∙ length-map run (λ (e : Entry). e.0)

    by : (records : List cost.Record) → records_of q s.width (all_pieces inputs givens) ≡ records
        → (cost s records).passes ≤ max 1 (length run)
    by [] none = omega arith
    by (one ∷ more) are =
        let fits : cost.EachFits s (one ∷ more) = subst (cost.EachFits s) are fit in
        let few = passes_few s (one ∷ more) fits (omega arith) in
        let named : cost.keys_of (one ∷ more) ≡ map packing (concatenated keys.lists) = ap cost.keys_of (sym are) ∙ keys.keys in
        let all : AllByRecursion (λ x. cost.is_one_of (map packing (distinct row_cmp (concatenated keys.lists))) x
        ≡ true) (cost.keys_of (one ∷ more)) =
        subst (AllByRecursion (λ x. cost.is_one_of (map packing (distinct row_cmp (concatenated keys.lists))) x ≡ true)) (sym named)
        (each_among (concatenated keys.lists) (concatenated keys.lists) (λ k m. m)) in
        let fewer = fewer_distinct (cost.first_of_each (cost.keys_of (one ∷ more)))
        (map packing (distinct row_cmp (concatenated keys.lists))) (distinct-apart (cost.keys_of (one ∷ more)))
        (each_distinct (λ x. cost.is_one_of (map packing (distinct row_cmp (concatenated keys.lists))) x
        ≡ true) (cost.keys_of (one ∷ more)) all) in
        omega (arith, few, fewer, long)

-- ---- how many groups and records there are

pub run_few : (q : Query) (width : ℕ) (inputs : List Brought) (givens : List Given) (run : List Entry) → IsRunOver q inputs run
    → AllGive q inputs givens → length run ≤ length (records_of q width (all_pieces inputs givens))
run_few q width inputs givens run over give =
    let keys = has_keys q width inputs givens give in
    let few = over.few keys.lists keys.bring in
    let long : length (records_of q width (all_pieces inputs givens)) ≡ length (concatenated keys.lists) =
    sym (length-map (records_of q width (all_pieces inputs givens)) (λ (entry : cost.Record). entry.key)) ∙ ap length keys.keys
    ∙ length-map (concatenated keys.lists) packing in
    omega (arith, few, long)

rows_cost : (q : Query) (width : ℕ) (rows : List Row) → length (records_of q width (map Of_row rows)) ≤ length rows
rows_cost q width [] = omega arith
rows_cost q width (row ∷ rows) =
    let rest = rows_cost q width rows in
    elim (is_met (column_of row) q.condition) as (λ b. length (cond b (cost.of_row (packing (key_of q row)) (packing row) ∷ []) []
    ++ records_of q width (map Of_row rows)) ≤ length (row ∷ rows)) [
      | true ↦ omega (arith, rest)
      | false ↦ omega (arith, rest)
    ]

groups_cost : (q : Query) (width most : ℕ) (groups : List Group) → length (records_of q width (map (λ group. Of_group group most) groups))
    ≡ length groups
groups_cost q width most [] = refl
groups_cost q width most (group ∷ groups) = let rest = groups_cost q width most groups in omega (arith, rest)

pub records_few : (q : Query) (width : ℕ) (inputs : List Brought) (givens : List Given) → AllGive q inputs givens
    → length (records_of q width (all_pieces inputs givens)) ≤ all_rows inputs + all_groups inputs
records_few q width [] [] give = omega arith
records_few q width [] (given ∷ givens) give = absurd give
records_few q width (input ∷ inputs) [] give = absurd give
records_few q width (Packed packed ∷ inputs) (Of_rows rows ∷ givens) (first, give) =
    let rest = records_few q width inputs givens give in
    let here = rows_cost q width rows in
    let many : length packed ≡ length rows = ap length first.packings_are ∙ length-map rows packing in
    let both = ap length (records_more q width (map Of_row rows) (all_pieces inputs givens))
    ∙ length-append (records_of q width (map Of_row rows)) (records_of q width (all_pieces inputs givens)) in
    let counted = sum_by-cons rows_in (Packed packed) inputs in
    let grouped = sum_by-cons groups_in (Packed packed) inputs in
    omega (arith, rest, here, many, both, counted, grouped)
records_few q width (Counted run most ∷ inputs) (Of_groups groups ∷ givens) (first, give) =
    let rest = records_few q width inputs givens give in
    let here = groups_cost q width most groups in
    let many = groups_long q most run groups first in
    let both = ap length (records_more q width (map (λ group. Of_group group most) groups) (all_pieces inputs givens))
    ∙ length-append (records_of q width (map (λ group. Of_group group most) groups)) (records_of q width (all_pieces inputs givens)) in
    let counted = sum_by-cons rows_in (Counted run most) inputs in
    let grouped = sum_by-cons groups_in (Counted run most) inputs in
    omega (arith, rest, here, many, both, counted, grouped)
records_few q width (Packed packed ∷ inputs) (Of_groups groups ∷ givens) (first, give) = absurd first
records_few q width (Counted run most ∷ inputs) (Of_rows rows ∷ givens) (first, give) = absurd first
