-- Laws: the union of what is known, and the unbroken prefix; nothing here is a definition.
use Rattle.std.specs.Prelude.{◌≡◌, ◌||◌, List, ◌∷◌, ◌++◌}
use Rattle.std.proofs.Common.{sym, ◌∙◌, ap, subst, arith}
use Rattle.std.specs.declared.cmp.Ordering.TheVariants.{Equal}
use Rattle.std.specs.Ordering.{eq_by_cmp}
use Rattle.std.specs.List.Sorted.{IsStrictlySortedBy, IsStrictlySortedBy-prop}
use Rattle.grouping_model.specs.Rising.{is_among}
use Rattle.grouping_model.specs.Rising.Facts.{among-append, among-distinct, same_members, or_comm, or_assoc, or_itself}
use Rattle.grouping_model.specs.World.{Batch, batch_cmp, batch_cmp_total, Knowledge, knowing, nothing, knows, learn, union}
use Rattle.std.proofs.lemmas.Bool.Decides.{nat_tests}
use Rattle.std.proofs.lemmas.Grind.{common_steps}

pub batch_cmp_ties : (x y : Batch) → batch_cmp x y ≡ Equal → x ≡ y
batch_cmp_ties (o, n) (p, m) e = grind (arith, nat_tests, common_steps)

same_batches : (a b : Knowledge) → a.batches ≡ b.batches → a ≡ b
same_batches a b e =
    let P : List Batch → Type 0 = λ batches. (rising : IsStrictlySortedBy batch_cmp batches) → a
    ≡ record { batches = batches; rising = rising } in
    let at_own : P a.batches = λ rising i. record {
      batches = a.batches;
      rising = IsStrictlySortedBy-prop batch_cmp a.batches a.rising
          rising i;
    } in
    subst P e at_own b.rising

-- what is known determines the set
pub same_knowledge : (a b : Knowledge) → ((batch : Batch) → knows a batch ≡ knows b batch) → a ≡ b
same_knowledge a b same = same_batches a b (same_members batch_cmp_total batch_cmp_ties a.batches b.batches a.rising b.rising same)

pub knows_knowing : (batches : List Batch) (batch : Batch) → knows (knowing batches) batch ≡ is_among batch_cmp batch batches
knows_knowing batches batch = among-distinct batch_cmp_total batch batches

pub knows_union : (a b : Knowledge) (batch : Batch) → knows (union a b) batch ≡ (knows a batch || knows b batch)
knows_union a b batch = knows_knowing (a.batches ++ b.batches) batch ∙ among-append batch_cmp batch a.batches b.batches

pub knows_learn : (a : Knowledge) (new batch : Batch) → knows (learn a new) batch ≡ (eq_by_cmp batch_cmp batch new || knows a batch)
knows_learn a new batch = knows_knowing (new ∷ a.batches) batch

pub union_commutes : (a b : Knowledge) → union a b ≡ union b a
union_commutes a b = same_knowledge (union a b) (union b a) (λ batch. knows_union a b batch ∙ or_comm (knows a batch) (knows b batch)
    ∙ sym (knows_union b a batch))

pub union_associates : (a b c : Knowledge) → union (union a b) c ≡ union a (union b c)
union_associates a b c =
    same_knowledge (union (union a b) c) (union a (union b c)) (λ batch.
    knows_union (union a b) c batch
    ∙ ap (λ x. x || knows c batch) (knows_union a b batch)
    ∙ or_assoc (knows a batch) (knows b batch) (knows c batch)
    ∙ ap (λ x. knows a batch || x) (sym (knows_union b c batch))
    ∙ sym (knows_union a (union b c) batch))

pub union_itself : (a : Knowledge) → union a a ≡ a
union_itself a = same_knowledge (union a a) a (λ batch. knows_union a a batch ∙ or_itself (knows a batch))

pub nothing_union : (a : Knowledge) → union nothing a ≡ a
nothing_union a = same_knowledge (union nothing a) a (λ batch. knows_union nothing a batch)
