use Rattle.std.specs.Prelude.{refl, ◌≡◌, ◌<◌, ℕ, List, Some}
use Rattle.std.proofs.Common.{◌∙◌, sym, subst}
use Rattle.std.proofs.lemmas.Bool.{true≢false}
use Rattle.std.specs.List.{AllByRecursion}
use Rattle.std.specs.Ordering.{nat_cmp}
use Rattle.std.specs.BTreeMap.Range.{IsEntryInRange}
use Rattle.std.specs.declared.ops.Bound.TheVariants.{Excluded, Unbounded}
use Rattle.std.proofs.lemmas.List.Elements.{recursion_from_All}
use Rattle.list_laws.specs.Each.{each_weaker}
use Rattle.origin_prefix.specs.Parts.{Batches, rows_at}
use Rattle.origin_prefix.specs.Joins.{AreAmong}
use Rattle.origin_prefix.proofs.EarlyLaws.{behind_number, are_behind, among_behind, among_more, among_none}
use Rattle.origin_prefix.proofs.early.are_among.Goals as goal

pub loop-next-init : goal.loop-next-init
loop-next-init c =
    let early : Batches = c.args.early.now.entries in
    let between : c.range-next-items.result ≡ behind_number c.args.number early = c.range-next-items.ensures.between tt in
    let all : c.into_iter-next-iterator.result ≡ behind_number c.args.number early = cc in
    let in_range = recursion_from_All (IsEntryInRange nat_cmp (Excluded c.args.number) Unbounded c.args.early.now)
    c.range-next-items.result (c.range-next-items.ensures.in_range tt).0 in
    record {
      left = λ among. among_behind c.args.number early c.args.others.now.entries
          (subst (λ bs. AreAmong c.args.number bs c.args.others.now.entries) all among);
      found = subst (AllByRecursion (λ (e : ℕ × List (List ℕ)). rows_at early e.0 ≡ Some e.1))
          (sym c.into_iter-next-iterator.ensures.into_iter_gives)
          (each_weaker (IsEntryInRange nat_cmp (Excluded c.args.number) Unbounded c.args.early.now)
          (λ (e : ℕ × List (List ℕ)). rows_at early e.0 ≡ Some e.1) (λ e is. is.1) c.range-next-items.result in_range);
      above = subst (AllByRecursion (λ (e : ℕ × List (List ℕ)). c.args.number < e.0)) (sym all) (are_behind c.args.number early);
      can = tt;
      finite = tt;
    }

pub loop-next-preserved : goal.loop-next-preserved
loop-next-preserved c =
    let others : Batches = c.args.others.now.entries in
    let rows : List (List ℕ) = c.in-Some.rows.now in
    record {
      left = λ among. c.loop-next.invariant.left (subst (λ bs. AreAmong c.args.number bs others) (sym c.in-Some.ensures.steps)
          (among_more c.args.number c.in-Some.next.now rows c.next.new.self others
          (sym c.get.ensures.value ∙ c.has_rows.ensures.0 c.if-not-has_rows.false) among));
      found = (subst (AllByRecursion (λ (e : ℕ × List (List ℕ)). rows_at c.args.early.now.entries e.0 ≡ Some e.1)) c.in-Some.ensures.steps
          c.loop-next.invariant.found).1;
      above = (subst (AllByRecursion (λ (e : ℕ × List (List ℕ)). c.args.number < e.0)) c.in-Some.ensures.steps
          c.loop-next.invariant.above).1;
      can = tt;
      finite = tt;
    }

pub returns-then-not-has_rows : goal.returns-then-not-has_rows
returns-then-not-has_rows c =
    let found = (subst (AllByRecursion (λ (e : ℕ × List (List ℕ)). rows_at c.args.early.now.entries e.0 ≡ Some e.1)) c.in-Some.ensures.steps
    c.loop-next.invariant.found).0 in
    let above = (subst (AllByRecursion (λ (e : ℕ × List (List ℕ)). c.args.number < e.0)) c.in-Some.ensures.steps
    c.loop-next.invariant.above).0 in (
      λ t. absurd (true≢false (sym t)),
      λ among. absurd (true≢false (sym (c.has_rows.ensures.1 (c.get.ensures.value
          ∙ among c.in-Some.next.now above c.in-Some.rows.now found)) ∙ c.if-not-has_rows.true)),
    )

pub returns : goal.returns
returns c = (
  λ t. c.loop-next.invariant.left (subst (λ bs. AreAmong c.args.number bs c.args.others.now.entries) (sym c.in-None.ensures.steps.0)
      (among_none c.args.number c.args.others.now.entries)),
  λ among. refl,
)
