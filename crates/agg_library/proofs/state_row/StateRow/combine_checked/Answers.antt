use Rattle.std.proofs.Common.{ap, ◌≡◌, ◌∙◌, ◌+◌, ◌++◌, [], drop, take, arith, subst, sym}
use Rattle.std.proofs.lemmas.List.{drop_all, take-append-drop}
use Rattle.agg_library.specs.Combinations.{Combines}
use Rattle.agg_library.proofs.CombiningSteps.{can_behind, can_there, end_was, ends, long_there, untouched_behind, were_behind}
use Rattle.agg_library.proofs.RowLaws.{kind_at, kinds_from}
use Rattle.agg_library.proofs.state_row.StateRow.combine_checked.Goals as goal

pub overflow_add-end : goal.overflow_add-end
overflow_add-end c =
    let i = c.loop-kind.kind-index in
    let kinds = c.args.kinds.now in
    let inv = c.loop-kind.invariant in
    let long = long_there c.args.most (kind_at kinds i) (drop i kinds) (drop (i + 1) kinds) (kinds_from kinds i c.loop-kind-test.true)
    c.args.into.now c.loop-kind.into c.args.from.now c.loop-kind.start c.width.result c.width.ensures inv.0 inv.1 c.loop-kind.auto.into inv.2
    inv.3 in
    record { fits = omega (arith, long.0, inv.5) }

pub slice_bounds-combine_part_into-end : goal.slice_bounds-combine_part_into-end
slice_bounds-combine_part_into-end c =
    let i = c.loop-kind.kind-index in
    let kinds = c.args.kinds.now in
    let inv = c.loop-kind.invariant in
    let long = long_there c.args.most (kind_at kinds i) (drop i kinds) (drop (i + 1) kinds) (kinds_from kinds i c.loop-kind-test.true)
    c.args.into.now c.loop-kind.into c.args.from.now c.loop-kind.start c.width.result c.width.ensures inv.0 inv.1 c.loop-kind.auto.into inv.2
    inv.3 in
    omega (arith, long.0, c.loop-kind.auto.into)

pub slice_bounds-combine_part_into-end-in-loop-kind : goal.slice_bounds-combine_part_into-end-in-loop-kind
slice_bounds-combine_part_into-end-in-loop-kind c =
    let i = c.loop-kind.kind-index in
    let kinds = c.args.kinds.now in
    let inv = c.loop-kind.invariant in
    let long = long_there c.args.most (kind_at kinds i) (drop i kinds) (drop (i + 1) kinds) (kinds_from kinds i c.loop-kind-test.true)
    c.args.into.now c.loop-kind.into c.args.from.now c.loop-kind.start c.width.result c.width.ensures inv.0 inv.1 c.loop-kind.auto.into inv.2
    inv.3 in
    omega (arith, long.1)

pub combine_part_into-requires-clause-both : goal.combine_part_into-requires-clause-both
combine_part_into-requires-clause-both c =
    let i = c.loop-kind.kind-index in
    let kinds = c.args.kinds.now in
    let inv = c.loop-kind.invariant in
    can_there c.args.most (kind_at kinds i) (drop i kinds) (drop (i + 1) kinds) (kinds_from kinds i c.loop-kind-test.true)
    c.args.into.now c.loop-kind.into c.args.from.now c.loop-kind.start c.width.result c.width.ensures inv.0 inv.1 c.loop-kind.auto.into inv.2
    inv.3

pub loop-kind-preserved : goal.loop-kind-preserved
loop-kind-preserved c =
    let i = c.loop-kind.kind-index in
    let kinds = c.args.kinds.now in
    let kind = kind_at kinds i in
    let ks = drop (i + 1) kinds in
    let next = kinds_from kinds i c.loop-kind-test.true in
    let old = c.args.into.now in
    let new = c.loop-kind.into in
    let from = c.args.from.now in
    let start = c.loop-kind.start in
    let width = c.width.result in
    let inv = c.loop-kind.invariant in
    let same = c.loop-kind.auto.into in
    let long = long_there c.args.most kind (drop i kinds) ks next old new from start width c.width.ensures inv.0 inv.1 same inv.2 inv.3 in
    let part = c.combine_part_into.new.into in
    let one = c.combine_part_into.ensures in (
      long.0,
      long.1,
      untouched_behind c.args.most kind (drop i kinds) ks next old new from start width c.width.ensures inv.0 inv.1 same inv.2 inv.3 part one,
      can_behind c.args.most kind (drop i kinds) ks next old new from start width c.width.ensures inv.0 inv.1 same inv.2 inv.3,
      λ rest were. were_behind c.args.most kind (drop i kinds) ks next old new from start width c.width.ensures inv.0 inv.1 same inv.2 inv.3
          part one rest (λ both. Combines c.args.most kinds old from both) inv.4 were,
      inv.5,
    )

pub returns : goal.returns
returns c =
    let start = c.loop-kind.start in
    let new = c.loop-kind.into in
    let old = c.args.into.now in
    let inv = c.loop-kind.invariant in
    let none = drop_all c.loop-kind.kind-index c.args.kinds.now (omega (arith, c.loop-kind-test.false)) in
    let left = drop c.loop-kind.kind-index c.args.kinds.now in
    let over = ends c.args.most left (drop start old) (drop start c.args.from.now) none inv.3 in
    let whole : take start new ++ [] ≡ new = ap (λ b. take start new ++ b) (sym (inv.2 ∙ over.0)) ∙ take-append-drop start new in
    subst (λ both. Combines c.args.most c.args.kinds.now old c.args.from.now both) whole
    (inv.4 [] (end_was c.args.most left (drop start old) (drop start c.args.from.now) none over.0 over.1))
