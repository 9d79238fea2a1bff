use Rattle.std.proofs.Common.{ap, ◌∙◌, take, drop, [], ◌∷◌, ◌+◌, arith}
use Rattle.std.proofs.lemmas.List.{drop_all}
use Rattle.std.proofs.lemmas.Result.{on_ok_weaker, on_err_weaker}
use Rattle.list_laws.specs.Outcomes.{always_err}
use Rattle.agg_library.proofs.RowLaws.{denotes_cons, denotes_end, denotes_nothing, denotes_split, kind_at, kinds_from, short_row}
use Rattle.agg_library.proofs.state_row.StateRow.check.Goals as goal

pub returns-then-rest-width-clause-err : goal.returns-then-rest-width-clause-err
returns-then-rest-width-clause-err c =
    λ ps d. let i = c.loop-kind.kind-index in
    let kinds = c.args.kinds.now in
    let left = c.loop-kind.invariant.1 ps d in
    short_row c.args.most (kind_at kinds i) (drop i kinds) (drop (i + 1) kinds) c.loop-kind.rest.now (kinds_from kinds i c.loop-kind-test.true)
    (omega (arith, c.width.ensures)) left.0 left.1

pub returns-in_err-check_one-clause-err : goal.returns-in_err-check_one-clause-err
returns-in_err-check_one-clause-err c =
    let i = c.loop-kind.kind-index in
    let kinds = c.args.kinds.now in
    let rest = c.loop-kind.rest.now in
    always_err c.from_residual.result
    (λ ps d. let left = c.loop-kind.invariant.1 ps d in
    let parts = denotes_split c.args.most (kind_at kinds i) (drop i kinds) (drop (i + 1) kinds) rest c.split_at.result.0.now
    c.split_at.result.1.now (kinds_from kinds i c.loop-kind-test.true)
    (c.split_at.ensures.front ∙ ap (λ n. take n rest) c.width-in-loop-kind.ensures) (c.split_at.ensures.back
    ∙ ap (λ n. drop n rest) c.width-in-loop-kind.ensures) left.0 left.1 in
    c.in_err-check_one.ensures.err parts.0 parts.2)

pub loop-kind-preserved : goal.loop-kind-preserved
loop-kind-preserved c =
    let i = c.loop-kind.kind-index in
    let kinds = c.args.kinds.now in
    let rest = c.loop-kind.rest.now in
    let next = kinds_from kinds i c.loop-kind-test.true in
    let front = c.split_at.ensures.front ∙ ap (λ n. take n rest) c.width-in-loop-kind.ensures in
    let back = c.split_at.ensures.back ∙ ap (λ n. drop n rest) c.width-in-loop-kind.ensures in (
      λ ps d. c.loop-kind.invariant.0 (c.in_ok-check_one.ensures.ok.0 ∷ ps)
          (denotes_cons c.args.most (kind_at kinds i) (drop i kinds) (drop (i + 1) kinds) rest c.split_at.result.0.now c.split_at.result.1.now
          c.in_ok-check_one.ensures.ok.0 ps next front back c.in_ok-check_one.ensures.ok.1 d),
      λ qs d. let left = c.loop-kind.invariant.1 qs d in
          let parts = denotes_split c.args.most (kind_at kinds i) (drop i kinds) (drop (i + 1) kinds) rest c.split_at.result.0.now
          c.split_at.result.1.now next front back left.0 left.1 in
          (parts.1, parts.3),
    )

pub returns-clause-ok : goal.returns-clause-ok
returns-clause-ok c =
    let none = drop_all c.loop-kind.kind-index c.args.kinds.now (omega (arith, c.loop-kind-test.false)) in
    on_ok_weaker c.check_end.result
    (λ e. c.loop-kind.invariant.0 [] (denotes_end c.args.most (drop c.loop-kind.kind-index c.args.kinds.now) c.loop-kind.rest.now none e))
    c.check_end.ensures.ok

pub returns-clause-err : goal.returns-clause-err
returns-clause-err c =
    let none = drop_all c.loop-kind.kind-index c.args.kinds.now (omega (arith, c.loop-kind-test.false)) in
    on_err_weaker c.check_end.result
    (λ some ps d. let left = c.loop-kind.invariant.1 ps d in
    some (denotes_nothing c.args.most (drop c.loop-kind.kind-index c.args.kinds.now) c.loop-kind.rest.now none left.0 left.1))
    c.check_end.ensures.err
