use Rattle.std.specs.Prelude.{refl}
use Rattle.std.proofs.Common.{arith}
use Rattle.having_filter.proofs.OrderingLaws.{apart_at, alike_at, none_apart}
use Rattle.having_filter.proofs.answer.AnswerRows.compare.Goals as goal

pub loop-term-init : goal.loop-term-init
loop-term-init c = refl

pub returns-in_default : goal.returns-in_default
returns-in_default c =
    apart_at c.args.terms.now c.loop-term.term-index _ _ _ _ _ c.compare_by.result c.loop-term.invariant c.loop-term-test.true
    c.value_or_null.ensures c.value_or_null-in-loop-term.ensures c.compare_by.ensures c.in_default.not-Equal

pub loop-term-preserved : goal.loop-term-preserved
loop-term-preserved c =
    alike_at c.args.terms.now c.loop-term.term-index _ _ _ _ _ c.compare_by.result c.loop-term.invariant c.loop-term-test.true
    c.value_or_null.ensures c.value_or_null-in-loop-term.ensures c.compare_by.ensures c.in-Equal.is

pub returns : goal.returns
returns c =
    let past = c.loop-term-test.false in
    none_apart c.args.terms.now c.loop-term.term-index _ _ c.loop-term.invariant (omega (arith, past))
