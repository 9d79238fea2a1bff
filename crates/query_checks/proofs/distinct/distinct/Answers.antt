use Rattle.std.proofs.Common.{◌≡◌, ◌+◌, ◌<◌, take, ap, sym, subst, ◌∙◌, arith, length}
use Rattle.std.proofs.lemmas.List.{take_all}
use Rattle.std.proofs.lemmas.Result.{IfOk-from_err}
use Rattle.query_checks.specs.Sameness.{with_one, first_of_each}
use Rattle.query_checks.proofs.DistinctLaws.{next_step, no_fewer}
use Rattle.query_checks.proofs.distinct.distinct.Goals as goal

pub loop-member-init : goal.loop-member-init
loop-member-init g c = c.new-found.ensures.items

pub loop-member-preserved : goal.loop-member-preserved
loop-member-preserved g c =
    c.in_ok-push_once.ensures ∙ ap (λ found. with_one g.T.Same.same found c.member-item.result) c.loop-member.invariant
    ∙ sym (next_step g.T.Same.same c.args.members.now c.loop-member.member-index c.member-item.result (omega arith) c.member-item.is)

pub returns-then-len-most-clause-more : goal.returns-then-len-most-clause-more
returns-then-len-most-clause-more g c =
    λ many.
    let same = g.T.Same.same in let all = c.args.members.now in let next = c.loop-member.member-index + 1 in
    let here : c.push_once.new.members.items ≡ first_of_each same (take next all) =
    c.in_ok-push_once.ensures ∙ ap (λ found. with_one same found c.member-item.result) c.loop-member.invariant
    ∙ sym (next_step same all c.loop-member.member-index c.member-item.result (omega arith) c.member-item.is) in
    let long : length c.push_once.new.members.items ≡ length (first_of_each same (take next all)) = ap length here in
    let few = no_fewer same next all in
    omega (arith, many, few, long)

pub returns-then-len-most-clause-all : goal.returns-then-len-most-clause-all
returns-then-len-most-clause-all g c = λ few. absurd (omega (arith, few))

pub returns-clause-all : goal.returns-clause-all
returns-clause-all g c =
    λ few. c.loop-member.invariant
    ∙ ap (first_of_each g.T.Same.same) (take_all c.loop-member.member-index c.args.members.now c.loop-member-test.false)

pub returns-clause-more : goal.returns-clause-more
returns-clause-more g c =
    λ many. subst (λ found. c.args.most < length found)
    (c.loop-member.invariant
    ∙ ap (first_of_each g.T.Same.same) (take_all c.loop-member.member-index c.args.members.now c.loop-member-test.false)) many

pub returns-in_err-push_once : goal.returns-in_err-push_once
returns-in_err-push_once g c =
    record {
      all = IfOk-from_err c.from_residual.result _ c.from_residual.ensures.0;
      more = IfOk-from_err c.from_residual.result _
          c.from_residual.ensures.0;
    }
