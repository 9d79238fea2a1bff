-- What goes out, as sets of batches, and entries that are kept in order.
use Rattle.std.specs.Prelude.{◌≡◌, refl, ℕ, ◌<◌, ◌≤◌, ◌↔◌, ◌||◌, ◌&&◌, not, nat_le, nat_lt, Bool, true, false, List, []}
use Rattle.std.specs.Prelude.{◌∷◌, ◌++◌, filter}
use Rattle.std.proofs.Common.{◌∙◌, sym, ap, arith}
use Rattle.std.proofs.lemmas.Bool.{true≢false}
use Rattle.std.specs.List.{AllByRecursion}
use Rattle.std.specs.List.Sorted.{IsStrictlySortedBy}
use Rattle.std.specs.BTreeMap.{insert_entry}
use Rattle.std.specs.Ordering.{nat_cmp, match_ordering}
use Rattle.std.specs.declared.cmp.Ordering.TheVariants.{Greater}
use Rattle.grouping_model.specs.Rising.{is_among}
use Rattle.grouping_model.specs.World.{Batch, batch_cmp, batch_cmp_total, Knowledge, knows, union, prefix, IsUnbroken}
use Rattle.grouping_model.specs.KnowledgeLaws.{batch_cmp_ties, knows_knowing, knows_union, same_knowledge}
use Rattle.grouping_model.specs.MemberLaws.{among_member, filter_member, member_filter}
use Rattle.grouping_model.specs.Lemmas.PrefixLaws.{prefix_unbroken, prefix_largest}
use Rattle.origin_prefix.specs.Lemmas.ByNumber.{numbers, above_first}
use Rattle.replica_merge.specs.Lemmas.ToldLaws.{alike}
use Rattle.replica_merge.specs.Lacking.{IsWithin, is_lacked, lacked}

both_true : (a b : Bool) → a ≡ true → b ≡ true → (a && b) ≡ true
both_true a b one two = (λ i. one i && two i)

pub first_true : (a b : Bool) → (a && b) ≡ true → a ≡ true
first_true true b e = refl
first_true false b e = e

pub second_true : (a b : Bool) → (a && b) ≡ true → b ≡ true
second_true true b e = e
second_true false b e = absurd (true≢false (sym e))

-- a batch goes out exactly if it is told and lacked
pub knows_lacked : (own known : Knowledge) (batch : Batch) → knows (lacked own known) batch ≡ (knows own batch && is_lacked own known batch)
knows_lacked own known batch =
    knows_knowing (filter (is_lacked own known) own.batches) batch
    ∙ alike (is_among batch_cmp batch (filter (is_lacked own known) own.batches)) (knows own batch && is_lacked own known batch)
    (λ e.
    let found = filter_member (is_lacked own known) own.batches batch
    ((among_member batch_cmp_total batch_cmp_ties (filter (is_lacked own known) own.batches) batch).0 e) in
    both_true (knows own batch) (is_lacked own known batch) ((among_member batch_cmp_total batch_cmp_ties own.batches batch).1 found.0) found.1)
    (λ e.
    (among_member batch_cmp_total batch_cmp_ties (filter (is_lacked own known) own.batches) batch).1
    (member_filter (is_lacked own known) own.batches batch
    ((among_member batch_cmp_total batch_cmp_ties own.batches batch).0 (first_true (knows own batch) (is_lacked own known batch) e))
    (second_true (knows own batch) (is_lacked own known batch) e)))

-- what is lacked by a list that tells no more than one knows gives it as much as the whole
pub lacked_suffices : (all own known : Knowledge) → IsWithin known all → union all (lacked own known) ≡ union all own
lacked_suffices all own known within =
    same_knowledge (union all (lacked own known)) (union all own) (λ batch.
    knows_union all (lacked own known) batch
    ∙ ap (λ b. knows all batch || b) (knows_lacked own known batch)
    ∙ enough (knows all batch) (knows own batch) (knows known batch)
    (nat_le batch.1 (prefix own batch.0) && nat_lt (prefix known batch.0) (prefix own batch.0)) (within batch)
    ∙ sym (knows_union all own batch))
  where
    enough : (a o k longer : Bool) → (k ≡ true → a ≡ true) → (a || (o && (not k || longer))) ≡ (a || o)
    enough true o k longer f = refl
    enough false o true longer f = absurd (true≢false (sym (f refl)))
    enough false true false longer f = refl
    enough false false false longer f = refl

-- up to a number all are known exactly if the prefix is not shorter
pub unbroken_is : (known : Knowledge) (origin n : ℕ) → IsUnbroken known origin n ↔ (nat_lt (prefix known origin) n ≡ false)
unbroken_is known origin n = (
  λ all. let long : n ≤ prefix known origin = prefix_largest known origin n all in grind arith,
  λ e number low high. let long : n ≤ prefix known origin = grind arith in
      prefix_unbroken known origin number low (omega (arith, high, long)),
)

-- nothing goes out exactly if all that is told is known
pub none_lacked : (own known : Knowledge) → ((batch : Batch) → knows (lacked own known) batch ≡ false) ↔ IsWithin own known
none_lacked own known = (
  λ none batch told.
      known_if (knows own batch) (knows known batch)
      (nat_le batch.1 (prefix own batch.0) && nat_lt (prefix known batch.0) (prefix own batch.0)) told
      (sym (knows_lacked own known batch) ∙ none batch),
  λ within batch.
      let short : nat_lt (prefix known batch.0) (prefix own batch.0) ≡ false =
      (unbroken_is known batch.0 (prefix own batch.0)).0 (λ n low high. within (batch.0, n) (prefix_unbroken own batch.0 n low high)) in
      knows_lacked own known batch
      ∙ none_if (knows own batch) (knows known batch) (nat_le batch.1 (prefix own batch.0))
      (nat_lt (prefix known batch.0) (prefix own batch.0)) (within batch) short,
)
  where
    known_if : (o k longer : Bool) → o ≡ true → (o && (not k || longer)) ≡ false → k ≡ true
    known_if true true longer told none = refl
    known_if true false longer told none = absurd (true≢false none)
    known_if false k longer told none = absurd (true≢false (sym told))

    none_if : (o k within longer : Bool) → (o ≡ true → k ≡ true) → longer ≡ false → (o && (not k || (within && longer))) ≡ false
    none_if false k within longer f short = refl
    none_if true k within longer f short = (λ i. not (f refl i) || (within && short i)) ∙ and_none within
      where
        and_none : (w : Bool) → (w && false) ≡ false
        and_none true = refl
        and_none false = refl

-- ---- entries in order

-- entries that are done are below those that are left
abbrev pub AreBelow : {X Y : Type 0} → List (ℕ × X) → List (ℕ × Y) → Type 0
AreBelow {X} {Y} done left = AllByRecursion (λ (e : ℕ × X). AllByRecursion (λ (f : ℕ × Y). e.0 < f.0) left) done

-- the first of those that are left is put behind those that are done
pub put_last : {X Y : Type 0} (done : List (ℕ × X)) (n : ℕ) (y : Y) (left : List (ℕ × Y)) (x : X) → AreBelow done ((n, y) ∷ left)
    → insert_entry nat_cmp done n x ≡ done ++ ((n, x) ∷ [])
put_last [] n y left x below = refl
put_last {X} {Y} (e ∷ done) n y left x below =
    let above : nat_cmp n e.0 ≡ Greater = let low : e.0 < n = below.0.0 in grind arith in
    ap (λ r. match_ordering r ((n, x) ∷ e ∷ done) ((e.0, x) ∷ done) (e ∷ insert_entry nat_cmp done n x)) above
    ∙ ap (λ rest. e ∷ rest) (put_last done n y left x below.1)

-- those that are left after it are above those that are done
pub below_less : {X Y : Type 0} (done : List (ℕ × X)) (n : ℕ) (y : Y) (left : List (ℕ × Y)) → AreBelow done ((n, y) ∷ left)
    → AreBelow done left
below_less [] n y left below = tt
below_less (e ∷ done) n y left below = (below.0.1, below_less done n y left below.1)

-- and above it
pub below_more : {X Y : Type 0} (done : List (ℕ × X)) (n : ℕ) (y : Y) (left : List (ℕ × Y)) (x : X)
    → IsStrictlySortedBy nat_cmp (numbers ((n, y) ∷ left)) → AreBelow done ((n, y) ∷ left) → AreBelow (done ++ ((n, x) ∷ [])) left
below_more [] n y left x rising below = (above_first n y left rising, tt)
below_more (e ∷ done) n y left x rising below = (below.0.1, below_more done n y left x rising below.1)
