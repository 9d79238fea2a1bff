use Rattle.std.proofs.lemmas.Bool.{true≢false}
use Rattle.std.specs.Prelude.{refl, ◌≡◌, ◌≢◌, ◌<◌, ℕ, List, Some}
use Rattle.std.proofs.Common.{◌∙◌, sym, subst}
use Rattle.std.specs.List.{AllByRecursion}
use Rattle.std.specs.List.Sorted.{IsStrictlySortedBy}
use Rattle.std.specs.Ordering.{nat_cmp}
use Rattle.std.specs.BTreeMap.Range.{IsEntryInRange}
use Rattle.std.specs.declared.ops.Bound.TheVariants.{Excluded, Unbounded}
use Rattle.std.proofs.lemmas.List.Elements.{recursion_from_All}
use Rattle.list_laws.specs.Each.{each_weaker}
use Rattle.origin_prefix.specs.Parts.{Batches, rows_at}
use Rattle.origin_prefix.specs.Joins.{DiffersAt}
use Rattle.origin_prefix.specs.Lemmas.ByNumber.{numbers, rising_rest}
use Rattle.origin_prefix.proofs.EarlyLaws.{behind_number, are_behind, behind_rises, differs_behind, differs_later, none_differ, none_lower}
use Rattle.origin_prefix.proofs.early.first_difference.Goals as goal

pub loop-next-init : goal.loop-next-init
loop-next-init c =
    let one : Batches = c.args.one.now.entries in
    let between : c.range-next-items.result ≡ behind_number c.args.number one = c.range-next-items.ensures.between tt in
    let all : c.into_iter-next-iterator.result ≡ behind_number c.args.number one = cc in
    let in_range = recursion_from_All (IsEntryInRange nat_cmp (Excluded c.args.number) Unbounded c.args.one.now) c.range-next-items.result
    (c.range-next-items.ensures.in_range tt).0 in
    record {
      left = λ n d. subst (λ bs. DiffersAt c.args.number bs c.args.other.now.entries n) (sym all)
          (differs_behind c.args.number one c.args.other.now.entries n d);
      found = subst (AllByRecursion (λ (e : ℕ × List (List ℕ)). rows_at one e.0 ≡ Some e.1))
          (sym c.into_iter-next-iterator.ensures.into_iter_gives)
          (each_weaker (IsEntryInRange nat_cmp (Excluded c.args.number) Unbounded c.args.one.now)
          (λ (e : ℕ × List (List ℕ)). rows_at one e.0 ≡ Some e.1) (λ e is. is.1) c.range-next-items.result in_range);
      above = subst (AllByRecursion (λ (e : ℕ × List (List ℕ)). c.args.number < e.0)) (sym all) (are_behind c.args.number one);
      rising = subst (λ bs. IsStrictlySortedBy nat_cmp (numbers bs)) (sym all)
          (behind_rises c.args.number one c.range-next-items.ensures.ordered);
      can = tt;
      finite = tt;
    }

pub loop-next-preserved : goal.loop-next-preserved
loop-next-preserved c =
    let one : Batches = c.args.one.now.entries in
    let other : Batches = c.args.other.now.entries in
    let rows : List (List ℕ) = c.in-Some.rows.now in
    let same : c.args.number < c.in-Some.next.now → (those : List (List ℕ)) → rows_at other c.in-Some.next.now ≡ Some those → rows ≢ those
    → ⊥ =
    λ low those there differ. true≢false (sym (c.differs_from.ensures.1 (those, c.get.ensures.value ∙ there, differ))
    ∙ c.if-differs_from.false) in
    record {
      left = λ n d. differs_later c.args.number c.in-Some.next.now rows c.next.new.self other same n
          (subst (λ bs. DiffersAt c.args.number bs other n) c.in-Some.ensures.steps (c.loop-next.invariant.left n d));
      found = (subst (AllByRecursion (λ (e : ℕ × List (List ℕ)). rows_at one e.0 ≡ Some e.1)) c.in-Some.ensures.steps
          c.loop-next.invariant.found).1;
      above = (subst (AllByRecursion (λ (e : ℕ × List (List ℕ)). c.args.number < e.0)) c.in-Some.ensures.steps
          c.loop-next.invariant.above).1;
      rising = rising_rest (c.in-Some.next.now, rows) c.next.new.self (subst (λ bs. IsStrictlySortedBy nat_cmp (numbers bs))
          c.in-Some.ensures.steps c.loop-next.invariant.rising);
      can = tt;
      finite = tt;
    }

pub returns-then-differs_from : goal.returns-then-differs_from
returns-then-differs_from c =
    let other : Batches = c.args.other.now.entries in
    let number : ℕ = c.in-Some.next.now in
    let rows : List (List ℕ) = c.in-Some.rows.now in
    let d = c.if-differs_from.ensures.0 refl in
    let found = (subst (AllByRecursion (λ (e : ℕ × List (List ℕ)). rows_at c.args.one.now.entries e.0 ≡ Some e.1)) c.in-Some.ensures.steps
    c.loop-next.invariant.found).0 in
    let above = (subst (AllByRecursion (λ (e : ℕ × List (List ℕ)). c.args.number < e.0)) c.in-Some.ensures.steps
    c.loop-next.invariant.above).0 in
    let rising = subst (λ bs. IsStrictlySortedBy nat_cmp (numbers bs)) c.in-Some.ensures.steps c.loop-next.invariant.rising in (
      record {
        behind = above;
        rows = rows;
        those = d.0;
        there = found;
        there_too = sym c.get.ensures.value ∙ d.1;
        differ = d.2;
      },
      λ lower low differs.
          none_lower c.args.number number rows c.next.new.self other rising lower low
          (subst (λ bs. DiffersAt c.args.number bs other lower) c.in-Some.ensures.steps (c.loop-next.invariant.left lower differs)),
    )

pub returns : goal.returns
returns c = λ d.
    none_differ c.args.number c.args.other.now.entries d.0
    (subst (λ bs. DiffersAt c.args.number bs c.args.other.now.entries d.0) c.in-None.ensures.steps.0 (c.loop-next.invariant.left d.0 d.1))
