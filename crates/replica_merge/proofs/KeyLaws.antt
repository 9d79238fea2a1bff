-- The keys that inputs bring, and those of the run that has the groups of all of them.
use Rattle.std.specs.Prelude.{◌≡◌, refl, ℕ, ◌+◌, Bool, true, false, ◌||◌, List, [], ◌∷◌, ◌++◌, map}
use Rattle.std.proofs.Common.{sym, ◌∙◌, ap, subst, append-nil}
use Rattle.std.proofs.lemmas.Grind.{flat_map-append}
use Rattle.std.specs.List.{AllByRecursion}
use Rattle.std.specs.List.Sorted.{IsStrictlySortedBy}
use Rattle.std.specs.Ordering.{nat_cmp}
use Rattle.std.specs.Cmp.Lexicographic.{slice_cmp}
use Rattle.replica_merge.specs.Lemmas.Words.{Row, row_cmp, Query, Group, AreGroups}
use Rattle.list_laws.specs.Each.{each_append}
use Rattle.grouping_model.specs.Datum.{Kind, HasKinds}
use Rattle.grouping_model.specs.DatumOrderLaws.{row_cmp_total, row_cmp_ties}
use Rattle.grouping_model.specs.Parts.{keys_of, key_kinds}
use Rattle.grouping_model.specs.Rising.{distinct, is_among}
use Rattle.grouping_model.specs.Rising.Facts.{distinct-rises, among-distinct, among-append, same_members}
use Rattle.packed_rows.specs.ConcatenatedRows.{concatenated}
use Rattle.packed_rows.specs.Packing.{packing}
use Rattle.group_runs.specs.Adding.{groups_added}
use Rattle.group_runs.specs.Runs.{Entry, Rises, packed_keys}
use Rattle.group_runs.specs.StandingLaws.{keys_packed, keys_of_kinds}
use Rattle.group_runs.specs.MergeLaws.{puts, puts_rise, keys_of-groups_added}
use Rattle.group_runs.specs.Lemmas.MergeLaws.{among-puts}
use Rattle.group_runs.specs.Lemmas.RunLaws.{packed_once, rises_keys}
use Rattle.hash_agg.specs.Inputs.{Brought, Packed, Counted, AllBring}
use Rattle.replica_merge.proofs.PartedLaws.{distinct_each}

-- a run has the keys that inputs bring, each once and in increasing order
abbrev pub HasKeys : Query → List Brought → List Entry → Type 0
HasKeys q inputs run = (lists : List (List Row)) → AllBring q inputs lists → packed_keys run
    ≡ map packing (distinct row_cmp (concatenated lists))

-- ---- the kinds of keys

-- inputs that are runs
abbrev pub IsOfRun : Brought → Type 0
IsOfRun (Packed rows) = ⊥
IsOfRun (Counted run most) = Unit {0}

abbrev pub AreOfRuns : List Brought → Type 0
AreOfRuns inputs = AllByRecursion IsOfRun inputs

-- the keys that they bring have the kinds of the query's keys
pub brought_kinds : (q : Query) (inputs : List Brought) (lists : List (List Row)) → AreOfRuns inputs → AllBring q inputs lists
    → AllByRecursion (HasKinds (key_kinds q)) (concatenated lists)
brought_kinds q [] [] runs bring = tt
brought_kinds q [] (ks ∷ lists) runs bring = absurd bring
brought_kinds q (input ∷ inputs) [] runs bring = absurd bring
brought_kinds q (Packed rows ∷ inputs) (ks ∷ lists) (one, runs) bring = absurd one
brought_kinds q (Counted run most ∷ inputs) (ks ∷ lists) (one, runs) (first, bring) =
    each_append (HasKinds (key_kinds q)) ks (concatenated lists) first.of_kinds (brought_kinds q inputs lists runs bring)

-- keys of the same packings are the same
packings_once : (kinds : List Kind) (ks ls : List Row) → AllByRecursion (HasKinds kinds) ks → AllByRecursion (HasKinds kinds) ls
    → map packing ks ≡ map packing ls → ks ≡ ls
packings_once kinds [] [] has too same = refl
packings_once kinds [] (l ∷ ls) has too same = absurd cc
packings_once kinds (k ∷ ks) [] has too same = absurd cc
packings_once kinds (k ∷ ks) (l ∷ ls) (one, has) (other, too) same =
    let head : packing k ≡ packing l = cc in
    let tail : map packing ks ≡ map packing ls = cc in
    λ i. packed_once kinds (packing l) k l one other (sym head) refl i ∷ packings_once kinds ks ls has too tail i

-- the keys of the groups for which a run of these keys stands
keys_are : (q : Query) (most : ℕ) (run : List Entry) (groups : List Group) (ks : List Row) → AreGroups q most run groups
    → AllByRecursion (HasKinds (key_kinds q)) ks → packed_keys run ≡ map packing ks → keys_of groups ≡ ks
keys_are q most run groups ks are has packed =
    packings_once (key_kinds q) (keys_of groups) ks (keys_of_kinds q most run groups are) has
    (sym (keys_packed q most run groups are) ∙ packed)

-- ---- distinct keys

rising_distinct : (ks : List Row) → IsStrictlySortedBy row_cmp ks → ks ≡ distinct row_cmp ks
rising_distinct ks rises =
    same_members row_cmp_total row_cmp_ties ks (distinct row_cmp ks) rises (distinct-rises row_cmp_total ks)
    (λ key. sym (among-distinct row_cmp_total key ks))

puts_distinct : (ks ls : List Row) → puts (distinct row_cmp ks) (distinct row_cmp ls) ≡ distinct row_cmp (ks ++ ls)
puts_distinct ks ls =
    same_members row_cmp_total row_cmp_ties (puts (distinct row_cmp ks) (distinct row_cmp ls)) (distinct row_cmp (ks ++ ls))
    (puts_rise (distinct row_cmp ks) (distinct row_cmp ls) (distinct-rises row_cmp_total ks)) (distinct-rises row_cmp_total (ks ++ ls))
    (λ key.
    among-puts key (distinct row_cmp ks) (distinct row_cmp ls)
    ∙ (λ i. among-distinct row_cmp_total key ks i || among-distinct row_cmp_total key ls i)
    ∙ sym (among-append row_cmp key ks ls)
    ∙ sym (among-distinct row_cmp_total key (ks ++ ls)))

-- those of two parts, the one before the other
pub distinct_in_two : (firsts seconds all : List Row) → IsStrictlySortedBy row_cmp (distinct row_cmp firsts ++ distinct row_cmp seconds)
    → ((key : Row) → is_among row_cmp key all ≡ (is_among row_cmp key firsts || is_among row_cmp key seconds))
    → distinct row_cmp firsts ++ distinct row_cmp seconds ≡ distinct row_cmp all
distinct_in_two firsts seconds all rises among =
    same_members row_cmp_total row_cmp_ties (distinct row_cmp firsts ++ distinct row_cmp seconds) (distinct row_cmp all) rises
    (distinct-rises row_cmp_total all)
    (λ key.
    among-append row_cmp key (distinct row_cmp firsts) (distinct row_cmp seconds)
    ∙ (λ i. among-distinct row_cmp_total key firsts i || among-distinct row_cmp_total key seconds i)
    ∙ sym (among key)
    ∙ sym (among-distinct row_cmp_total key all))

-- ---- one run, and two that are added

pub keys_of_one : (q : Query) (run : List Entry) (rows : ℕ) → Rises run → HasKeys q (Counted run rows ∷ []) run
keys_of_one q run rows rises [] bring = absurd bring
keys_of_one q run rows rises (ks ∷ []) (one, none) =
    let rising : IsStrictlySortedBy row_cmp ks = rises_keys (key_kinds q) ks one.of_kinds
    (subst (IsStrictlySortedBy (slice_cmp nat_cmp)) one.packings_are rises) in
    one.packings_are ∙ ap (map packing) (rising_distinct ks rising ∙ ap (distinct row_cmp) (sym (append-nil ks)))
keys_of_one q run rows rises (ks ∷ more ∷ lists) (one, bring) = absurd bring

-- what inputs of two lists bring
pub record BothBring (q : Query) (xs ys : List Brought) (lists : List (List Row)) : Type 0 where
  pub fronts : List (List Row)
  pub backs : List (List Row)
  pub both : lists ≡ fronts ++ backs
  pub front : AllBring q xs fronts
  pub back : AllBring q ys backs

both_bring : (q : Query) (xs ys : List Brought) (lists : List (List Row)) → AllBring q (xs ++ ys) lists → BothBring q xs ys lists
both_bring q [] ys lists bring = record { fronts = []; backs = lists; both = refl; front = tt; back = bring }
both_bring q (x ∷ xs) ys [] bring = absurd bring
both_bring q (x ∷ xs) ys (ks ∷ lists) bring =
    let rest : BothBring q xs ys lists = both_bring q xs ys lists bring.1 in
    record {
      fronts = ks ∷ rest.fronts;
      backs = rest.backs;
      both = ap (λ those. ks ∷ those) rest.both;
      front = (bring.0, rest.front);
      back = rest.back;
    }

pub keys_of_both : (q : Query) (xs ys : List Brought) (a b c : List Entry) (m n : ℕ) (gs hs : List Group) → AreOfRuns xs → AreOfRuns ys
    → AreGroups q m a gs → AreGroups q n b hs → AreGroups q (m + n) c (groups_added q gs hs) → HasKeys q xs a → HasKeys q ys b
    → HasKeys q (xs ++ ys) c
keys_of_both q xs ys a b c m n gs hs xs_are ys_are first second added left right lists bring =
    let two : BothBring q xs ys lists = both_bring q xs ys lists bring in
    let fronts : List Row = concatenated two.fronts in
    let backs : List Row = concatenated two.backs in
    let all : concatenated lists ≡ fronts ++ backs = ap concatenated two.both
    ∙ flat_map-append (λ (row : List Row). row) two.fronts two.backs in
    let had : keys_of gs ≡ distinct row_cmp fronts = keys_are q m a gs (distinct row_cmp fronts) first
    (distinct_each (HasKinds (key_kinds q)) fronts (brought_kinds q xs two.fronts xs_are two.front)) (left two.fronts two.front) in
    let came : keys_of hs ≡ distinct row_cmp backs = keys_are q n b hs (distinct row_cmp backs) second
    (distinct_each (HasKinds (key_kinds q)) backs (brought_kinds q ys two.backs ys_are two.back)) (right two.backs two.back) in
    keys_packed q (m + n) c (groups_added q gs hs) added
    ∙ ap (map packing)
    (keys_of-groups_added q gs hs ∙ (λ i. puts (had i) (came i)) ∙ puts_distinct fronts backs ∙ ap (distinct row_cmp) (sym all))

-- ---- keys of two runs, the one behind the other

pub record KeysInTwo (xs ys : List Entry) (ks : List Row) : Type 0 where
  pub first : List Row
  pub second : List Row
  pub both : ks ≡ first ++ second
  pub firsts : packed_keys xs ≡ map packing first
  pub seconds : packed_keys ys ≡ map packing second

pub keys_in_two : (xs ys : List Entry) (ks : List Row) → packed_keys (xs ++ ys) ≡ map packing ks → KeysInTwo xs ys ks
keys_in_two [] ys ks same = record { first = []; second = ks; both = refl; firsts = refl; seconds = same }
keys_in_two (x ∷ xs) ys [] same = absurd cc
keys_in_two (x ∷ xs) ys (k ∷ ks) same =
    let head : x.0 ≡ packing k = cc in
    let tail : packed_keys (xs ++ ys) ≡ map packing ks = cc in
    let rest : KeysInTwo xs ys ks = keys_in_two xs ys ks tail in
    record {
      first = k ∷ rest.first;
      second = rest.second;
      both = ap (λ those. k ∷ those) rest.both;
      firsts = λ i. head i ∷ rest.firsts i;
      seconds = rest.seconds;
    }

pub crossed : (a b c d : Bool) → ((a || b) || (c || d)) ≡ ((a || c) || (b || d))
crossed true b c d = refl
crossed false true true d = refl
crossed false true false d = refl
crossed false false c d = refl
