-- What becomes of a part to which a batch is delivered.
use Rattle.std.specs.Prelude.{◌≡◌, ◌≢◌, refl, ℕ, ◌+◌, ◌-◌, ◌<◌, ◌≤◌, ◌||◌, ◌&&◌, nat_le, Bool, true, false, List, Some, None, Result, Ok}
use Rattle.std.specs.Prelude.{Err, IfOk, IfErr, OnOk, OnErr}
use Rattle.std.proofs.Common.{◌∙◌, sym, ap, subst, inl, inr, arith}
use Rattle.std.proofs.lemmas.Bool.{cases_lt, and_right, or_right}
use Rattle.std.specs.Option.{is_some}
use Rattle.std.specs.List.Sorted.{IsStrictlySortedBy}
use Rattle.std.specs.Ordering.{nat_cmp}
use Rattle.std.specs.BTreeMap.{insert_entry}
use Rattle.std.proofs.lemmas.Result.{IfOk-weaker, IfErr-weaker}
use Rattle.list_laws.specs.Each.{each_weaker}
use Rattle.grouping_model.specs.Query.{Query}
use Rattle.grouping_model.specs.declared.limits.TheConstants.{LAST_NUMBER}
use Rattle.grouping_model.specs.declared.delivered.Delivered.{Delivered}
use Rattle.grouping_model.specs.declared.delivered.Delivered.TheVariants.{Known, Early}
use Rattle.packed_rows.specs.Columns.{kinds}
use Rattle.batch_reader.specs.Rows.{ArePackedRows}
use Rattle.query_checks.specs.Checks.{Checked}
use Rattle.having_filter.specs.Meaning.{meaning}
use Rattle.origin_prefix.specs.Parts.{Batches, Part, rows_at, tells, IsEarly, IsBehind, IsOpen, IsPartOf, Delivers}
use Rattle.origin_prefix.specs.Parts.{BatchTells, Drains, Refuses, behind}
use Rattle.batch_reader.specs.declared.batch.Batch.{Batch}
use Rattle.origin_prefix.specs.declared.error.RefusedBatch.{RefusedBatch}
use Rattle.origin_prefix.specs.declared.error.JoinError.TheVariants.{OriginDisagrees}
use Rattle.origin_prefix.specs.Errors.{no_memory}
use Rattle.origin_prefix.specs.Lemmas.ByNumber.{numbers, some_is, found_holds, all_put}
use Rattle.origin_prefix.proofs.PartLaws.{drained_part}
use Rattle.origin_prefix.specs.Lemmas.DeliverLaws.{next_rising}

-- a number within the prefix isn't early
pub within_prefix : (query : Checked) (part : Part) (number : ℕ) (rows kept : List (List ℕ)) → IsPartOf query part → number ≤ part.prefix
    → rows_at part.early number ≡ Some kept → kept ≡ rows
within_prefix query part number rows kept is low there =
    let high : part.prefix
    + 1 < number = (found_holds (IsEarly (kinds query.columns) part.prefix) part.early number kept is.early there).behind in
    absurd (omega (arith, low, high))

pub known_within : (honest : Bool) (query : Checked) (q : Query) (part : Part) (number : ℕ) (rows : List (List ℕ)) → IsPartOf query part
    → 1 ≤ number → number ≤ part.prefix → Delivers honest q part number rows part Known
known_within honest query q part number rows is some low = (
  (let one : nat_le 1 number ≡ true = grind arith in
      let within : nat_le number part.prefix ≡ true = grind arith in
      λ i. (one i && within i) || is_some (rows_at part.early number)),
  λ kept there. within_prefix query part number rows kept is low there,
  refl,
)

pub known_early : (honest : Bool) (q : Query) (part : Part) (number : ℕ) (rows kept : List (List ℕ)) → rows_at part.early number ≡ Some kept
    → kept ≡ rows → Delivers honest q part number rows part Known
known_early honest q part number rows kept there same = (
  or_right (nat_le 1 number && nat_le number part.prefix) (is_some (rows_at part.early number)) (ap is_some there),
  λ other found. some_is other kept (sym found ∙ there) ∙ same,
  refl,
)

-- an early batch more
pub early_kept : (query : Checked) (old new : Part) (number : ℕ) (rows : List (List ℕ)) → IsPartOf query old → old.prefix + 1 < number
    → number ≤ LAST_NUMBER → ArePackedRows (kinds query.columns) rows
    → new ≡ record old { early = insert_entry nat_cmp old.early number rows } → IsStrictlySortedBy nat_cmp (numbers new.early)
    → IsPartOf query new
early_kept query old new number rows is behind within are same rising =
    subst (IsPartOf query) (sym same)
    (record {
      within = is.within;
      run = is.run;
      few = is.few;
      rising = subst (λ (p : Part). IsStrictlySortedBy nat_cmp (numbers p.early)) same rising;
      early = all_put (IsEarly (kinds query.columns) old.prefix) number rows old.early
          (record { behind = behind; within = within; rows = are }) is.early;
    })

-- a part without the batch next to its prefix, and with it
pub part_open : (query : Checked) (part : Part) → IsPartOf query part → IsOpen query part.prefix part.run part.early
part_open query part is =
    record {
      within = is.within;
      is_run = is.run;
      few = is.few;
      rising = is.rising;
      above = each_weaker (IsEarly (kinds query.columns) part.prefix) (IsBehind (kinds query.columns) part.prefix)
          (λ b e. record { behind = let low = e.behind in omega (arith, low); within = e.within; rows = e.rows }) part.early is.early;
    }

pub next_open : (query : Checked) (part : Part) (rows : List (List ℕ)) → IsPartOf query part → part.prefix + 1 ≤ LAST_NUMBER
    → ArePackedRows (kinds query.columns) rows
    → IsOpen query part.prefix part.run (behind part.prefix part.early (Some rows))
next_open query part rows is within are =
    let without = part_open query part is in
    record {
      within = is.within;
      is_run = is.run;
      few = is.few;
      rising = next_rising query part rows is;
      above = (record { behind = omega arith; within = within; rows = are }, without.above);
    }

-- ---- results

-- the reply to a number that is kept early
pub reply_early : {E : Type 0} (honest : Bool) (q : Query) (part : Part) (number : ℕ) (rows kept : List (List ℕ)) (r : Result Delivered E)
    → rows_at part.early number ≡ Some kept
    → IfOk r (λ reply. (reply ≡ Known) × (kept ≡ rows)) → IfOk r (Delivers honest q part number rows part)
reply_early honest q part number rows kept r there known =
    IfOk-weaker r (λ reply. (reply ≡ Known) × (kept ≡ rows)) (Delivers honest q part number rows part)
    (λ reply e. subst (Delivers honest q part number rows part) (sym e.0) (known_early honest q part number rows kept there e.1)) known

pub refused_early : (part : Part) (batch : Batch) (kept : List (List ℕ)) (r : Result Delivered RefusedBatch)
    → rows_at part.early batch.number ≡ Some kept
    → IfErr r (λ e. (e.batch ≡ batch) × (e.why ≡ OriginDisagrees (Some batch.number)) × (kept ≢ batch.rows))
    → IfErr r (Refuses part batch part)
refused_early part batch kept r there other =
    IfErr-weaker r (λ e. (e.batch ≡ batch) × (e.why ≡ OriginDisagrees (Some batch.number)) × (kept ≢ batch.rows)) (Refuses part batch part)
    (λ e is. record {
      back = is.0;
      same = refl;
      tells = subst (λ why. BatchTells why part batch.number batch.rows) (sym is.1)
          (refl, record { kept = kept; there = there; other = is.2 });
    }) other

-- a number behind the prefix that isn't early is not told
pub unknown : (part : Part) (number : ℕ) → part.prefix < number → rows_at part.early number ≡ None → tells part number ≡ false
unknown part number above none =
    let out : nat_le number part.prefix ≡ false = grind arith in λ i. and_right (nat_le 1 number) (nat_le number part.prefix) out i
    || is_some (none i)

-- and so it may be refused because memory ran out
pub kept_refuses : (old new : Part) (batch : Batch) (r : Result Delivered RefusedBatch) → tells old batch.number ≡ false
    → IfErr r (λ e. (e.batch ≡ batch) × (e.why ≡ no_memory) × (new ≡ old)) → IfErr r (Refuses old batch new)
kept_refuses old new batch r unknown refused =
    IfErr-weaker r (λ e. (e.batch ≡ batch) × (e.why ≡ no_memory) × (new ≡ old)) (Refuses old batch new)
    (λ e is. record {
      back = is.0;
      same = is.2;
      tells = subst (λ why. BatchTells why old batch.number batch.rows) (sym is.1) (unknown, λ other. absurd (other refl));
    }) refused

-- a batch was kept early, or handed back
pub part_kept : (r : Result Delivered RefusedBatch) (query : Checked) (old new : Part) (batch : Batch) → IsPartOf query old → old.prefix
    + 1 < batch.number → batch.number ≤ LAST_NUMBER
    → ArePackedRows (kinds query.columns) batch.rows
    → IfOk r (λ reply. (reply ≡ Early) × (new ≡ record old { early = insert_entry nat_cmp old.early batch.number batch.rows }))
    → IfErr r (λ e. (e.batch ≡ batch) × (e.why ≡ no_memory) × (new ≡ old)) → IsStrictlySortedBy nat_cmp (numbers new.early)
    → IsPartOf query new
part_kept (Ok x) query old new batch is behind within are kept same rising = early_kept query old new batch.number batch.rows is behind
    within are kept.1 rising
part_kept (Err e) query old new batch is behind within are kept same rising = subst (IsPartOf query) (sym same.2) is

-- a part drained, or stayed as it was
pub part_drained : {T E : Type 0} (r : Result T E) (honest : Bool) (query : Checked) (old new : Part) (batches : Batches)
    → IsPartOf query old → IsOpen query old.prefix old.run batches
    → OnOk r (Drains honest (meaning query) old.prefix old.run batches new) → OnErr r (new ≡ old) → IsPartOf query new
part_drained (Ok x) honest query old new batches is may drains same = drained_part honest query old.prefix old.run batches new may drains
part_drained (Err e) honest query old new batches is may drains same = subst (IsPartOf query) (sym same) is

pub behind_gap : (prefix number : ℕ) → prefix < number → (number - 1 ≡ prefix → ⊥) → prefix + 1 < number
behind_gap prefix number low apart = elim (cases_lt (prefix + 1) number) [ inl l ↦ l | inr h ↦ absurd (apart (omega (arith, low, h))) ]

-- a batch that was kept early
pub kept_delivers : {E : Type 0} (honest : Bool) (q : Query) (old new : Part) (number : ℕ) (rows : List (List ℕ)) (r : Result Delivered E)
    → tells old number ≡ false → number ≢ old.prefix + 1
    → IfOk r (λ reply. (reply ≡ Early) × (new ≡ record old { early = insert_entry nat_cmp old.early number rows }))
    → IfOk r (Delivers honest q old number rows new)
kept_delivers honest q old new number rows r unknown apart kept =
    IfOk-weaker r (λ reply. (reply ≡ Early) × (new ≡ record old { early = insert_entry nat_cmp old.early number rows }))
    (Delivers honest q old number rows new)
    (λ reply e. subst (Delivers honest q old number rows new) (sym e.0) (unknown, apart, e.1)) kept
