use Rattle.std.specs.Prelude.{◌≡◌, ◌<◌, ℕ, true, cond, List, [], Some, None}
use Rattle.std.proofs.Common.{◌∙◌, sym, ap, subst, rules}
use Rattle.std.specs.List.{AllByRecursion}
use Rattle.std.specs.Option.{is_some}
use Rattle.std.specs.Ordering.{eq_by_cmp, nat_cmp}
use Rattle.origin_prefix.specs.Parts.{Batches, rows_at, IsBehind}
use Rattle.origin_prefix.specs.Joins.{either}
use Rattle.list_laws.specs.Outcomes.{none_there}
use Rattle.origin_prefix.specs.Lemmas.ByNumber.{all_put}
use Rattle.origin_prefix.proofs.EarlyLaws.{AtNumber, behind_number, copied, passed_over, found_behind, all_behind, either_none}
use Rattle.origin_prefix.proofs.early.copy_above.Goals as goal

pub loop-next-preserved-in_ok-insert-2 : goal.loop-next-preserved-in_ok-insert-2
loop-next-preserved-in_ok-insert-2 c =
    let old : Batches = c.loop-next.into.entries in
    let new : Batches = c.insert.new.self.entries in
    let number : ℕ = c.in-Some.next.now in
    let rows : List (List ℕ) = c.in-Some.rows.now in
    let none : rows_at old number ≡ None = none_there (rows_at old number) (sym c.contains_key.ensures ∙ search rules) in
    let put : AtNumber old number rows new = λ n. c.in_ok-insert.ensures.updates.0 n
    ∙ ap (λ (r : List (List ℕ)). cond (eq_by_cmp nat_cmp number n) (Some r) (rows_at old n)) c.in_ok-try_clone.ensures in
    let packed : c.in_ok-try_clone.field-0 ≡ rows = c.in_ok-try_clone.ensures in
    let above = subst (AllByRecursion (λ (b : ℕ × List (List ℕ)). c.args.number < b.0)) c.in-Some.ensures.steps c.loop-next.invariant.above
    in
    record {
      rows = λ n. copied number rows old new c.next.new.self none put n
          ∙ ap (λ rest. either (rows_at old n) (rows_at rest n)) (sym c.in-Some.ensures.steps) ∙ c.loop-next.invariant.rows n;
      rising = c.in_ok-insert.ensures.ordered;
      above = above.1;
      behind = λ ks all had.
          let before = c.loop-next.invariant.behind ks all had in
          let rest = subst (AllByRecursion (λ (b : ℕ × List (List ℕ)). c.args.number < b.0 → IsBehind ks c.args.number b))
          c.in-Some.ensures.steps before.1 in (
            subst (AllByRecursion (IsBehind ks c.args.number)) (sym c.in_ok-insert.ensures.entries)
                (all_put (IsBehind ks c.args.number) number c.in_ok-try_clone.field-0 old
                (subst (λ (r : List (List ℕ)). IsBehind ks c.args.number (number, r)) (sym packed) (rest.0 above.0)) before.0),
            rest.1,
          );
      can = tt;
      finite = tt;
    }

pub loop-next-preserved : goal.loop-next-preserved
loop-next-preserved c =
    let old : Batches = c.loop-next.into.entries in
    let number : ℕ = c.in-Some.next.now in
    let rows : List (List ℕ) = c.in-Some.rows.now in
    let there : is_some (rows_at old number) ≡ true = sym c.contains_key.ensures ∙ search rules in
    record {
      rows = λ n. passed_over number rows old c.next.new.self there n
          ∙ ap (λ rest. either (rows_at old n) (rows_at rest n)) (sym c.in-Some.ensures.steps) ∙ c.loop-next.invariant.rows n;
      rising = c.loop-next.invariant.rising;
      above = (subst (AllByRecursion (λ (b : ℕ × List (List ℕ)). c.args.number < b.0)) c.in-Some.ensures.steps
          c.loop-next.invariant.above).1;
      behind = λ ks all had.
          let before = c.loop-next.invariant.behind ks all had in
          let rest = subst (AllByRecursion (λ (b : ℕ × List (List ℕ)). c.args.number < b.0 → IsBehind ks c.args.number b))
          c.in-Some.ensures.steps before.1 in
          (before.0, rest.1);
      can = tt;
      finite = tt;
    }

pub returns-clause-rows : goal.returns-clause-rows
returns-clause-rows c = λ n.
    let between : c.range-next-items.result ≡ behind_number c.args.number c.args.from.now.entries = c.range-next-items.ensures.between tt in
    let all : c.into_iter-next-iterator.result ≡ behind_number c.args.number c.args.from.now.entries = cc in
    let done : c.loop-next.next-iterator ≡ [] = c.in-None.ensures.steps.0 in
    sym (either_none (rows_at c.loop-next.into.entries n)) ∙ ap (λ es. either (rows_at c.loop-next.into.entries n) (rows_at es n))
    (sym done) ∙ c.loop-next.invariant.rows n
    ∙ ap (λ es. either (rows_at c.args.into.now.entries n) (rows_at es n)) all
    ∙ ap (either (rows_at c.args.into.now.entries n)) (found_behind c.args.number c.args.from.now.entries n)

pub returns-clause-behind : goal.returns-clause-behind
returns-clause-behind c = λ ks holds had.
    let between : c.range-next-items.result ≡ behind_number c.args.number c.args.from.now.entries = c.range-next-items.ensures.between tt in
    let all : c.into_iter-next-iterator.result ≡ behind_number c.args.number c.args.from.now.entries = cc in
    (c.loop-next.invariant.behind ks
    (subst (AllByRecursion (λ (b : ℕ × List (List ℕ)). c.args.number < b.0 → IsBehind ks c.args.number b)) (sym all)
    (all_behind (λ (b : ℕ × List (List ℕ)). c.args.number < b.0 → IsBehind ks c.args.number b) c.args.number c.args.from.now.entries holds))
    had).0
