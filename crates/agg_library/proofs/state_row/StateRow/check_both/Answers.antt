use Rattle.std.proofs.Common.{ap, ◌∙◌, ◌+◌, take, drop, arith}
use Rattle.std.proofs.lemmas.List.{drop_all}
use Rattle.std.proofs.lemmas.Result.{on_ok_weaker, on_err_weaker}
use Rattle.list_laws.specs.Outcomes.{always_err}
use Rattle.agg_library.proofs.CombiningSteps.{both_can, end_can, ends, first_can, long_enough, one_can, rest_can}
use Rattle.agg_library.proofs.RowLaws.{kind_at, kinds_from}
use Rattle.agg_library.proofs.state_row.StateRow.check_both.Goals.{then-left-width-via-then-left-width}
use Rattle.agg_library.proofs.state_row.StateRow.check_both.Goals.{then-left-width-via-else-left-width+then-other-width}
use Rattle.agg_library.proofs.state_row.StateRow.check_both.Goals as goal

pub returns-then-left-width-clause-err : goal.returns-then-left-width-clause-err
returns-then-left-width-clause-err c =
    λ can. let i = c.loop-kind.kind-index in
    let kinds = c.args.kinds.now in
    let long = long_enough c.args.most (kind_at kinds i) (drop i kinds) (drop (i + 1) kinds) c.loop-kind.left.now c.loop-kind.other.now
    (kinds_from kinds i c.loop-kind-test.true) (c.loop-kind.invariant.1 can) in
    elim c.then-left-width.branch [
      | then-left-width-via-then-left-width w ↦ omega (arith, long.0, w.if-left-width.true, c.width-width.ensures)
      | then-left-width-via-else-left-width+then-other-width w ↦ omega (arith, long.1, w.if-other-width.true, c.width-width.ensures)
    ]

pub returns-in_err-combine_one-clause-err : goal.returns-in_err-combine_one-clause-err
returns-in_err-combine_one-clause-err c =
    let i = c.loop-kind.kind-index in
    let kinds = c.args.kinds.now in
    let left = c.loop-kind.left.now in
    let other = c.loop-kind.other.now in
    always_err c.from_residual.result
    (λ can. let one = first_can c.args.most (kind_at kinds i) (drop i kinds) (drop (i + 1) kinds) (kinds_from kinds i c.loop-kind-test.true)
    left c.split_at.result.0.now c.split_at.result.1.now other c.split_at-in-loop-kind.result.0.now c.split_at-in-loop-kind.result.1.now
    (c.split_at.ensures.front ∙ ap (λ n. take n left) c.width-width.ensures)
    (c.split_at.ensures.back ∙ ap (λ n. drop n left) c.width-width.ensures)
    (c.split_at-in-loop-kind.ensures.front ∙ ap (λ n. take n other) c.width-width.ensures)
    (c.split_at-in-loop-kind.ensures.back ∙ ap (λ n. drop n other) c.width-width.ensures) (c.loop-kind.invariant.1 can) in
    let many = c.in_err-combine_one.ensures.err one.0 one.1 one.2 one.3 in let few = one.4 in omega arith)

pub loop-kind-preserved : goal.loop-kind-preserved
loop-kind-preserved c =
    let i = c.loop-kind.kind-index in
    let kinds = c.args.kinds.now in
    let left = c.loop-kind.left.now in
    let other = c.loop-kind.other.now in
    let next = kinds_from kinds i c.loop-kind-test.true in
    let a = c.split_at.ensures.front ∙ ap (λ n. take n left) c.width-width.ensures in
    let b = c.split_at.ensures.back ∙ ap (λ n. drop n left) c.width-width.ensures in
    let x = c.split_at-in-loop-kind.ensures.front ∙ ap (λ n. take n other) c.width-width.ensures in
    let y = c.split_at-in-loop-kind.ensures.back ∙ ap (λ n. drop n other) c.width-width.ensures in (
      λ can. c.loop-kind.invariant.0 (both_can c.args.most (kind_at kinds i) (drop i kinds) (drop (i + 1) kinds) next left
          c.split_at.result.0.now c.split_at.result.1.now other c.split_at-in-loop-kind.result.0.now
          c.split_at-in-loop-kind.result.1.now a b x y
          (one_can c.args.most (kind_at kinds i) c.split_at.result.0.now c.split_at-in-loop-kind.result.0.now c.combine_one.new.both
          c.in_ok-combine_one.ensures.ok) can),
      λ can. rest_can c.args.most (kind_at kinds i) (drop i kinds) (drop (i + 1) kinds) next left c.split_at.result.0.now
          c.split_at.result.1.now other c.split_at-in-loop-kind.result.0.now c.split_at-in-loop-kind.result.1.now a b x y
          (c.loop-kind.invariant.1 can),
    )

pub returns-clause-ok : goal.returns-clause-ok
returns-clause-ok c =
    let none = drop_all c.loop-kind.kind-index c.args.kinds.now (omega (arith, c.loop-kind-test.false)) in
    on_ok_weaker c.check_end-2.result
    (λ e. c.loop-kind.invariant.0 (end_can c.args.most (drop c.loop-kind.kind-index c.args.kinds.now) c.loop-kind.left.now
    c.loop-kind.other.now none c.in_ok-check_end.ensures.ok e))
    c.check_end-2.ensures.ok

pub returns-clause-err : goal.returns-clause-err
returns-clause-err c =
    let none = drop_all c.loop-kind.kind-index c.args.kinds.now (omega (arith, c.loop-kind-test.false)) in
    on_err_weaker c.check_end-2.result
    (λ some can. some (ends c.args.most (drop c.loop-kind.kind-index c.args.kinds.now) c.loop-kind.left.now c.loop-kind.other.now none
    (c.loop-kind.invariant.1 can)).1)
    c.check_end-2.ensures.err

pub returns-in_err-check_end-clause-err : goal.returns-in_err-check_end-clause-err
returns-in_err-check_end-clause-err c =
    let none = drop_all c.loop-kind.kind-index c.args.kinds.now (omega (arith, c.loop-kind-test.false)) in
    always_err c.from_residual-in_err-check_end.result
    (λ can. c.in_err-check_end.ensures.err (ends c.args.most (drop c.loop-kind.kind-index c.args.kinds.now) c.loop-kind.left.now
    c.loop-kind.other.now none (c.loop-kind.invariant.1 can)).0)
